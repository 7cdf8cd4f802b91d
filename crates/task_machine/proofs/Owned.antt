-- The tables stay right as they grow.
use Rattle.std.proofs.Common.{◌≡◌, ◌∙◌, ◌<◌, ◌&&◌, ◌⊎◌, inl, inr, ℕ, List, [], ◌∷◌, ◌++◌, All, Option, Some, None, IsSome, unwrap_or, true≢false, not, ap, ap₂, sym, subst, map, length, get_or, slice_get, refl, arith, append-nil, append_assoc, length-append}
use Rattle.std.specs.Option.{option_map}
use Rattle.std.proofs.lemmas.List.{get_or_append_left}
use Rattle.std.proofs.lemmas.List.Elements.{All-cons, All-head, All-nil, All-tail}
use Rattle.std.proofs.lemmas.Bool.{cases_eq}
use Rattle.std.proofs.lemmas.Option.{get_or_from_slice_get, same_Some, slice_get-get_or}
use Rattle.std.proofs.lemmas.Simd.{map-map}
use Rattle.htn_model.specs.Choice.{child_of}
use Rattle.htn_model.specs.Grounding.{problem_of}
use Rattle.htn_model.specs.Instance.{Instance}
use Rattle.htn_model.specs.Literal.{Literal, Action}
use Rattle.htn_model.specs.Machine.{Config}
use Rattle.htn_model.specs.Problem.{Child, GroundTask, Network, task}
use Rattle.htn_model.specs.State.{State, atoms_of, contains}
use Rattle.htn_model.specs.Task.{Task}
use Rattle.htn_ground.specs.Distinct.{distinct, live_methods}
use Rattle.htn_walk.specs.Listed.{listed_methods}
use Rattle.htn_walk.proofs.Listed.{listed_instances}
use Rattle.state_table.specs.Compiled.{AreCompiled, IsCompiled}
use Rattle.state_table.specs.Numberings.{IsNumbering}
use Rattle.state_table.specs.Table.{Table, IsLater, IsSetOf, is_fluent_by, is_changed}
use Rattle.state_table.specs.declared.compiled.CompiledAction.{CompiledAction}
use Rattle.state_table.specs.declared.compiled.CompiledLiterals.{CompiledLiterals}
use Rattle.state_table.proofs.Effects.{numbers_later}
use Rattle.state_table.proofs.States.{later_itself, later_more, later_set, later_state, told_apart}
use Rattle.network_table.specs.Networks.{children, expansion_at, IsGrown, IsWhole, Knows, network_at}
use Rattle.network_table.specs.Numbered.{config_at, IsWithin, Numbered}
use Rattle.network_table.specs.declared.table.NetworkTable.{NetworkTable}
use Rattle.network_table.specs.Expansions.{AreInstances, first_free, IsExpansion, IsKnownRemoval, IsSound, Live}
use Rattle.network_table.specs.declared.expansion.Expansion.{Expansion}
use Rattle.network_table.specs.declared.expansion.Expansion.TheVariants.{Decomposed, Performed}
use Rattle.network_table.specs.declared.expansion.Removal.{Removal}
use Rattle.network_table.proofs.Expanding.{all_more, grown_itself}
use Rattle.network_table.proofs.Growing.{grown_then, numbers_stay}
use Rattle.heuristics.specs.declared.needs_table.NeedsTable.{NeedsTable}
use Rattle.word_machine.specs.Meaning.{IsGrown as MeaningGrown}
use Rattle.task_machine.specs.Growing.{IsWider, StandFor}
use Rattle.task_machine.specs.Meaning.{allows, config_in, knows, meaning, point, point_of}
use Rattle.task_machine.specs.Steps.{live_networks}
use Rattle.task_machine.specs.Tables.{AreAtoms, AreExpanded, AreLater, AreListings, ArePerformers, AreTables, HasPerformers, IsFirstTask, IsKnownExpansion, IsListing, IsPerformer, slot}
use Rattle.task_machine.specs.declared.configuration.Configuration.{Configuration}
use Rattle.task_machine.specs.declared.configuration.Reached.{Reached}
use Rattle.task_machine.specs.declared.configuration.Reached.TheVariants.{Known, New}
use Rattle.task_machine.specs.declared.listing.Listing.{Listing}
use Rattle.task_machine.specs.declared.performer.Performer.{Performer}
use Rattle.task_machine.specs.declared.performer.Performer.TheVariants.{Step, Action as Acts, Never}
use Rattle.task_machine.specs.declared.tables.Tables.{Tables}
use Rattle.task_machine.proofs.Wider.{node_stays, stand_still}

-- ## More atoms

module _ (t : Task) (atoms later : Table) (grown : IsLater atoms later) where
  -- they are told apart as before
  pub atoms_later : AreAtoms t atoms → AreAtoms t later
  atoms_later own = record {
    table = grown.table;
    fluents = λ predicate. ap (λ f. is_changed f predicate) grown.fluents ∙ own.fluents predicate;
    statics = λ a. ap (λ (s : State). contains s a) grown.statics ∙ own.statics a ∙ ap (λ f. contains t.initial_atoms a && not (is_fluent_by f a)) (sym grown.fluents);
  }

  -- compiled literals stay right
  pub literals_later : (c : CompiledLiterals) (literals : List Literal) → AreCompiled atoms c literals → AreCompiled later c literals
  literals_later c literals compiled = λ after more. compiled after (later_more atoms later after grown more)

  -- a compiled action stays right
  action_later : (c : CompiledAction) (action : Action) → IsCompiled atoms c action → IsCompiled later c action
  action_later c action compiled = record {
    precondition = literals_later c.precondition action.precondition compiled.precondition;
    deletes = numbers_later atoms later grown c.deletes.items (atoms_of action.deletes) compiled.deletes;
    adds = numbers_later atoms later grown c.adds.items (atoms_of action.adds) compiled.adds;
  }

  -- a node's performer stays its own
  pub performer_later : (child : Child) (p : Performer) → IsPerformer t atoms child p → IsPerformer t later child p
  performer_later child (Step c) of = (of.0, of.1, literals_later c of.0 of.2)
  performer_later child (Acts c) of = (of.0, of.1, of.2, of.3, action_later c of.1 of.4)
  performer_later child Never of = of

  -- and so do all
  pub performers_later : (networks : NetworkTable) (performers : List (Option Performer)) → ArePerformers t atoms networks performers → ArePerformers t later networks performers
  performers_later networks performers own n p is =
      let of = own n p is in (of.0, performer_later (child_of (children networks) n) p of.1)

-- the tables with more atoms
pub with_atoms : (t : Task) (s : Tables) (later : Table) → IsLater s.atoms later → AreTables t s → AreTables t (record s { atoms = later })
with_atoms t s later grown own = record {
  atoms = atoms_later t s.atoms later grown own.atoms;
  numbering = own.numbering;
  sets = λ i words at. later_set s.atoms later grown words (own.sets i words at);
  networks = own.networks;
  sound = own.sound;
  goal = literals_later t s.atoms later grown s.goal (problem_of t).goal own.goal;
  performers = performers_later t s.atoms later grown s.networks s.performers.items own.performers;
  performed = own.performed;
  instances = own.instances;
}

-- the tables with other needs
pub with_needs : (t : Task) (s : Tables) (needs : NeedsTable) → AreTables t s → AreTables t (record s { needs = needs })
with_needs t s needs own = record {
  atoms = own.atoms;
  numbering = own.numbering;
  sets = own.sets;
  networks = own.networks;
  sound = own.sound;
  goal = own.goal;
  performers = own.performers;
  performed = own.performed;
  instances = own.instances;
}

-- ## More networks

-- performers stay right as more nodes get numbers
pub performers_wider : (t : Task) (atoms : Table) (old new : NetworkTable) → IsGrown old new → (performers : List (Option Performer))
    → ArePerformers t atoms old performers → ArePerformers t atoms new performers
performers_wider t atoms old new grown performers own n p is =
    let of = own n p is in
    let stays = node_stays old new grown n of.0 in (
      stays.0,
      subst (λ (child : Child). IsPerformer t atoms child p) (sym stays.1) of.1,
    )

-- and so do listed instances
pub listings_wider : (t : Task) (old new : NetworkTable) → IsGrown old new → (listings : List (Option Listing)) → AreListings t old listings → AreListings t new listings
listings_wider t old new grown listings own n found is =
    let of = own n found is in
    let stays = node_stays old new grown n of.0 in (
      stays.0,
      λ g stands. (let listing = of.1 g (sym stays.1 ∙ stands) in
          record { networks = stand_still old new grown found.networks.items (live_networks t g) listing.networks; sources = listing.sources }),
    )

-- the tables with more networks
pub with_networks : (t : Task) (s : Tables) (networks : NetworkTable) → IsWider s.networks networks → AreTables t s → AreTables t (record s { networks = networks })
with_networks t s networks wider own = record {
  atoms = own.atoms;
  numbering = own.numbering;
  sets = own.sets;
  networks = wider.whole;
  sound = wider.sound (live_networks t) own.sound;
  goal = own.goal;
  performers = performers_wider t s.atoms s.networks networks wider.grown s.performers.items own.performers;
  performed = λ n e is. own.performed n e (sym (wider.remembered n) ∙ is);
  instances = listings_wider t s.networks networks wider.grown s.instances.items own.instances;
}

-- ## One more state

-- the tables with a state more
pub with_state : (t : Task) (s : Tables) (states : List (List ℕ)) (state : List ℕ) → IsNumbering states → IsSetOf s.atoms state
    → ((n : ℕ) (other : List ℕ) → slice_get states n ≡ Some other → (slice_get s.states n ≡ Some other) ⊎ (other ≡ state))
    → AreTables t s → AreTables t (record s { states = states })
with_state t s states state numbering set others own = record {
  atoms = own.atoms;
  numbering = numbering;
  sets = λ n words at. elim (others n words at) [
    | inl before ↦ own.sets n words before
    | inr here ↦ subst (IsSetOf s.atoms) (sym here) set
  ];
  networks = own.networks;
  sound = own.sound;
  goal = own.goal;
  performers = own.performers;
  performed = own.performed;
  instances = own.instances;
}

-- ## Later tables

-- tables are no earlier than themselves
pub later_tables_itself : (t : Task) (s : Tables) → AreTables t s → AreLater s s
later_tables_itself t s own = record {
  atoms = later_itself s.atoms own.atoms.table;
  states = ([], sym (append-nil s.states));
  networks = grown_itself s.networks;
}

-- those with more atoms and other needs are later
pub later_needs : (t : Task) (s : Tables) (atoms : Table) (needs : NeedsTable) → IsLater s.atoms atoms → AreLater s (record s { atoms = atoms; needs = needs })
later_needs t s atoms needs grown = record {
  atoms = grown;
  states = ([], sym (append-nil s.states));
  networks = grown_itself s.networks;
}

-- later than later is later
pub later_tables_then : (s u v : Tables) → AreLater s u → AreLater u v → AreLater s v
later_tables_then s u v first second = record {
  atoms = later_more s.atoms u.atoms v.atoms first.atoms second.atoms;
  states = (first.states.0 ++ second.states.0, second.states.1 ∙ ap (λ l. l ++ second.states.0) first.states.1 ∙ append_assoc s.states first.states.0 second.states.0);
  networks = grown_then s.networks u.networks v.networks first.networks second.networks;
}

module _ (t : Task) (old new : Tables) (own : AreTables t old) (later : AreLater old new) where
  -- a set of atoms and a network stand for the same configuration
  config_stays : (words : List ℕ) (n : ℕ) → IsSetOf old.atoms words → Knows old.networks n → config_in new words n ≡ config_in old words n
  config_stays words n set known =
      ap₂ config_at (later_state old.atoms new.atoms later.atoms words set) (numbers_stay old.networks new.networks n own.networks later.networks known).1

  -- the set of atoms of a state's number
  words_stay : (i : ℕ) → i < length old.states → get_or new.states i [] ≡ get_or old.states i []
  words_stay i known = ap (λ l. get_or l i []) later.states.1 ∙ get_or_append_left old.states later.states.0 [] i known

  -- numbers stay
  known_stays : (c : Configuration) → knows old c → knows new c
  known_stays c known = (
    (let long = length-append old.states later.states.0 in let states = ap length later.states.1 in let low : c.state < length old.states = known.0 in omega arith),
    (numbers_stay old.networks new.networks c.network own.networks later.networks known.1).0,
  )

  -- and what they stand for
  point_stays : (c : Configuration) → knows old c → point new c ≡ point old c
  point_stays c known =
      let words = get_or old.states c.state [] in
      ap (λ w. config_in new w c.network) (words_stay c.state known.0)
      ∙ config_stays words c.network (own.sets c.state words (slice_get-get_or old.states c.state [] known.0)) known.1

  -- what was allowed stays so
  allowed_stays : (r : Reached) → allows old r → allows new r
  allowed_stays (Known state n) known = known_stays (record { state = state; network = n }) known
  allowed_stays (New state n) allowed = (
    later_set old.atoms new.atoms later.atoms state.value allowed.0,
    (numbers_stay old.networks new.networks n own.networks later.networks allowed.1).0,
  )

  -- what was reached stands for the same point
  reached_stays : (r : Reached) → allows old r → point_of new r ≡ point_of old r
  reached_stays (Known state n) known = point_stays (record { state = state; network = n }) known
  reached_stays (New state n) allowed = config_stays state.value n allowed.0 allowed.1

  -- what stood for a configuration still stands for it
  pub meaning_grown : MeaningGrown (meaning old) (meaning new)
  meaning_grown = record { known = known_stays; same = point_stays; allowed = allowed_stays; same_reached = reached_stays }

-- ## One more thing at a number

-- what was there stays
pub put_keeps : {A : Type 0} (old new : List (Option A)) (number : ℕ) (value : A) → slot new number ≡ Some value
    → ((n : ℕ) → (n ≡ number → ⊥) → slot new n ≡ slot old n) → (n : ℕ) → IsSome (slot old n) → IsSome (slot new n)
put_keeps {A} old new number value here others n there =
    elim (cases_eq n number) [
      | inl same ↦ subst (λ (o : Option A). IsSome o) (sym (ap (slot new) same ∙ here)) refl
      | inr apart ↦ subst (λ (o : Option A). IsSome o) (sym (others n apart)) there
    ]

-- one more performer
pub performers_put : (t : Task) (atoms : Table) (networks : NetworkTable) (old new : List (Option Performer)) (number : ℕ) (performer : Performer)
    → slot new number ≡ Some performer → ((n : ℕ) → (n ≡ number → ⊥) → slot new n ≡ slot old n) → number < length (children networks)
    → IsPerformer t atoms (child_of (children networks) number) performer → ArePerformers t atoms networks old → ArePerformers t atoms networks new
performers_put t atoms networks old new number performer here others known of own n p is =
    elim (cases_eq n number) [
      | inl same ↦ (
          let there : slot new n ≡ Some performer = ap (slot new) same ∙ here in
          let alike : performer ≡ p = same_Some performer p (sym there ∙ is) in (
            subst (λ k. k < length (children networks)) (sym same) known,
            subst (λ (x : Performer). IsPerformer t atoms (child_of (children networks) n) x) alike
                (subst (λ k. IsPerformer t atoms (child_of (children networks) k) performer) (sym same) of),
          ))
      | inr apart ↦ own n p (sym (others n apart) ∙ is)
    ]

-- one more compound task's instances
pub listings_put : (t : Task) (networks : NetworkTable) (old new : List (Option Listing)) (number : ℕ) (found : Listing)
    → slot new number ≡ Some found → ((n : ℕ) → (n ≡ number → ⊥) → slot new n ≡ slot old n) → number < length (children networks)
    → ((g : GroundTask) → child_of (children networks) number ≡ task g → IsListing t networks g found) → AreListings t networks old → AreListings t networks new
listings_put t networks old new number found here others known right own n other is =
    elim (cases_eq n number) [
      | inl same ↦ (
          let alike : found ≡ other = same_Some found other (sym here ∙ ap (slot new) (sym same) ∙ is) in (
            subst (λ k. k < length (children networks)) (sym same) known,
            λ g stands. subst (IsListing t networks g) alike (right g (ap (child_of (children networks)) (sym same) ∙ stands)),
          ))
      | inr apart ↦ own n other (sym (others n apart) ∙ is)
    ]

-- the networks of the instances that are listed
pub networks_listed : (t : Task) (g : GroundTask) → map (λ (i : Instance). i.network) (distinct (live_methods t g)) ≡ live_networks t g
networks_listed t g =
    ap (map (λ (i : Instance). i.network)) (sym (listed_instances t g))
    ∙ map-map (λ (i : Instance). i.network) (λ (p : ℕ × Instance). p.1) (listed_methods t g)

-- ## The expansion of a network is found

-- the nodes that go have numbers
pub known_expansion : (live : Live) (t : NetworkTable) (n : ℕ) (e : Expansion) → IsExpansion live t n e → IsKnownExpansion t e
known_expansion live t n (Decomposed position successors) of = tt
known_expansion live t n (Performed removals) of =
    all_more (IsKnownRemoval t) (λ (r : Removal). r.node < length (children t)) (λ r known. known.1) removals.items of.known

-- performers that were there still are
pub has_more : (old new : List (Option Performer)) → ((n : ℕ) → IsSome (slot old n) → IsSome (slot new n)) → (e : Expansion) → HasPerformers old e → HasPerformers new e
has_more old new kept (Decomposed position successors) has = tt
has_more old new kept (Performed removals) has =
    all_more (λ (r : Removal). IsSome (slot old r.node)) (λ (r : Removal). IsSome (slot new r.node)) (λ r there. kept r.node there) removals.items has

-- the tables with the expansions more of some networks
pub expanded : (t : Task) (s : Tables) (pending : List ℕ) (networks : NetworkTable) → IsWhole networks → IsGrown s.networks networks
    → IsSound (live_networks t) networks
    → ((n : ℕ) → All (λ m. n ≡ m → ⊥) pending → expansion_at networks n ≡ expansion_at s.networks n) → AreTables t s → AreExpanded t (record s { networks = networks }) pending
expanded t s pending networks whole grown sound others own = record {
  atoms = own.atoms;
  numbering = own.numbering;
  sets = own.sets;
  networks = whole;
  sound = sound;
  goal = own.goal;
  performers = performers_wider t s.atoms s.networks networks grown s.performers.items own.performers;
  performed = λ n e apart is. own.performed n e (sym (others n apart) ∙ is);
  instances = listings_wider t s.networks networks grown s.instances.items own.instances;
}

-- the nodes that go from the networks have their performers
pub performed_all : (networks : NetworkTable) (pending : List ℕ) (old new : List (Option Performer))
    → ((n : ℕ) (e : Expansion) → All (λ m. n ≡ m → ⊥) pending → expansion_at networks n ≡ Some e → HasPerformers old e)
    → ((n : ℕ) → IsSome (slot old n) → IsSome (slot new n)) → All (λ n. (e : Expansion) → expansion_at networks n ≡ Some e → HasPerformers new e) pending
    → (n : ℕ) (e : Expansion) → expansion_at networks n ≡ Some e → HasPerformers new e
performed_all networks pending old new others kept there n e is = by pending (λ apart. has_more old new kept e (others n e apart is)) there
  where
    apart_from : ℕ → Type 0
    apart_from m = n ≡ m → ⊥

    has_its : ℕ → Type 0
    has_its m = (x : Expansion) → expansion_at networks m ≡ Some x → HasPerformers new x

    by : (ms : List ℕ) → (All apart_from ms → HasPerformers new e) → All has_its ms → HasPerformers new e
    by [] rest have = rest (All-nil apart_from)
    by (m ∷ ms) rest have = elim (cases_eq n m) [
      | inl same ↦ All-head has_its m ms have e (ap (expansion_at networks) (sym same) ∙ is)
      | inr apart ↦ by ms (λ all. rest (All-cons apart_from m ms apart all)) (All-tail has_its m ms have)
    ]

-- ## What a worker reached

-- a new state's number stands for its set of atoms
pub words_of_number : (states : List (List ℕ)) (n : ℕ) (words : List ℕ) → slice_get states n ≡ Some words → get_or states n [] ≡ words
words_of_number states n words at = get_or_from_slice_get states n words [] at

-- a state with no number is in no configuration that is known
pub state_unknown : (t : Task) (s : Tables) → AreTables t s → (words : List ℕ) (network : ℕ) → IsSetOf s.atoms words
    → ((n : ℕ) → slice_get s.states n ≡ Some words → ⊥) → (c : Configuration) → knows s c → point s c ≡ config_in s words network → ⊥
state_unknown t s own words network set none c known same =
    let there = get_or s.states c.state [] in
    let at : slice_get s.states c.state ≡ Some there = slice_get-get_or s.states c.state [] known.0 in
    let alike : there ≡ words = told_apart s.atoms own.atoms.table there words (own.sets c.state there at) set (ap (λ (x : Config). x.state) same) in
    none c.state (at ∙ ap Some alike)

-- ## The instances of a network's first free compound task

-- tables with more networks alone
pub later_networks : (t : Task) (s : Tables) (networks : NetworkTable) → IsGrown s.networks networks → AreTables t s → AreLater s (record s { networks = networks })
later_networks t s networks grown own = record {
  atoms = later_itself s.atoms own.atoms.table;
  states = ([], sym (append-nil s.states));
  networks = grown;
}

module _ (t : Task) (networks : NetworkTable) (network node : ℕ) (first : IsFirstTask networks network node) where
  -- those that are listed for its node are the network's
  listed_alike : (found : List Numbered) → StandFor networks found (live_networks t first.goal) → AreInstances (live_networks t) networks network found
  listed_alike found stand position g at stands =
      let here : first.position ≡ position = same_Some first.position position (sym first.first ∙ at) in
      let alike : task first.goal ≡ task g = sym first.stands ∙ ap (child_of (network_at networks network).children) here ∙ stands in
      let goals : first.goal ≡ g = cc in
      stand.1 ∙ ap (live_networks t) goals

  -- they are its instances, by nodes that have numbers
  pub listed_right : (listings : List (Option Listing)) → AreListings t networks listings → IsSome (slot listings node) → (result : List Numbered)
      → result ≡ unwrap_or (option_map (λ (l : Listing). l.networks.items) (slot listings node)) [] → All (IsWithin (children networks)) result × AreInstances (live_networks t) networks network result
  listed_right listings own there result is = by (slot listings node) refl there is
    where
      by : (o : Option Listing) → slot listings node ≡ o → IsSome o → result ≡ unwrap_or (option_map (λ (l : Listing). l.networks.items) o) [] → All (IsWithin (children networks)) result × AreInstances (live_networks t) networks network result
      by None at there is = absurd (true≢false (sym there))
      by (Some found) at there is =
          let stand = ((own node found at).1 first.goal (first.same ∙ first.stands)).networks in (
            subst (All (IsWithin (children networks))) (sym is) stand.0,
            subst (AreInstances (live_networks t) networks network) (sym is) (listed_alike found.networks.items stand),
          )

-- it is the first in a table that has grown
pub first_stays : (old new : NetworkTable) (network node : ℕ) → IsWhole old → IsGrown old new → Knows old network → IsFirstTask old network node → IsFirstTask new network node
first_stays old new network node whole grown known first =
    let same = (numbers_stay old new network whole grown known).1 in
    let stays = node_stays old new grown node first.known in
    record {
      position = first.position;
      goal = first.goal;
      first = ap first_free same ∙ first.first;
      stands = ap (λ (n : Network). child_of n.children first.position) same ∙ first.stands;
      known = stays.0;
      same = stays.1 ∙ first.same ∙ sym (ap (λ (n : Network). child_of n.children first.position) same);
    }
