-- A word that is bounded by calls in whole states, lifted from calls in frames, is the least finishing one.
use Rattle.std.proofs.Common.{◌≡◌, ◌∙◌, ℕ, ◌+◌, ◌<◌, ◌≤◌, Bool, true, List, [], ◌∷◌, length, map, slice_get, Option, Some, None, option_map, All, zero, suc, inl, refl, sym, ap, subst, arith}
use Rattle.std.specs.Prelude.{Contains}
use Rattle.std.proofs.lemmas.List.Elements.{All-contains}
use Rattle.std.proofs.lemmas.Option.{none-some, same_Some, slice_get-get_or, slice_get_within, get_or_from_slice_get}
use Rattle.indexmap.specs.IndexMap.{IndexMap}
use Rattle.htn_model.specs.Grounding.{problem_of}
use Rattle.htn_model.specs.Instance.{Instance}
use Rattle.htn_model.specs.Instances.{initials}
use Rattle.htn_model.specs.Literal.{Literal, atom, equality, holds}
use Rattle.htn_model.specs.Machine.{Config}
use Rattle.htn_model.specs.Problem.{Child, precondition}
use Rattle.htn_model.specs.State.{State}
use Rattle.htn_model.specs.Task.{IsWellTyped, Task}
use Rattle.htn_model.proofs.Grounded.{tasks_are_grounded}
use Rattle.htn_ground.specs.Distinct.{distinct}
use Rattle.word_machine.specs.Answer.{IsLeastFinishing}
use Rattle.word_machine.specs.Words.{step_count}
use Rattle.word_machine.specs.Certificate.{IsCertificate}
use Rattle.word_machine.proofs.Certified.{certified}
use Rattle.htn_calls.specs.Calls as model
use Rattle.htn_calls.specs.Series.{opened}
use Rattle.htn_calls.proofs.Numbered.{in_mapped}
use Rattle.htn_calls.specs.Ordered.{ordered}
use Rattle.htn_walk.specs.Listed.{listing_machine}
use Rattle.call_rules.specs.Frame.{Frame}
use Rattle.call_rules.specs.Local.{are_literals_in, IsFrameOf}
use Rattle.state_table.specs.Table.{state_of}
use Rattle.heuristics.specs.Measure.{is_as_at_first}
use Rattle.heuristics.specs.Sizes.{size_of}
use Rattle.call_rules.specs.Framed.{AreFramedSites}
use Rattle.call_rules.specs.Measures.{AreMeasuredAtFirst}
use Rattle.call_rules.proofs.Measured.{measures_are_sizes}
use Rattle.call_rules.proofs.Walks.{starts_are_ranked}
use Rattle.call_table.specs.Estimates.{AreEstimates, ends_in, estimate_of}
use Rattle.call_table.specs.Lists.{list_at, nodes_of}
use Rattle.call_table.specs.Views.{call_at, listing, numbers, rule_view}
use Rattle.call_table.specs.declared.call.Call.{Call}
use Rattle.call_table.specs.declared.call.CallTable.{CallTable}
use Rattle.call_table.specs.declared.site.Site.{Site}
use Rattle.call_nodes.specs.Nodes.{AreListsOf, AreNodes, IsListOf, children, state_at}
use Rattle.call_nodes.specs.declared.call_nodes.CallNodes.{CallNodes}
use Rattle.call_proof.specs.Meaning.{AreRulesAt, block_at, config_at, node_at}
use Rattle.call_proof.specs.Ways.{AreLeft, IsBoundedWord}
use Rattle.call_proof.proofs.Numbers.{ends_below, ends_hold, one_node, one_state, sizes_below}
use Rattle.call_proof.proofs.Ruled.{at_sites, nodes_are, ruled, rules_are, sites}
use Rattle.call_proof.proofs.Ways.{among_first, least_way, left_below}
use Rattle.call_proof.specs.Parts.{frame_at}
use Rattle.call_rules.specs.FramedNumbers.{AreFramedNumbersChecked, HaveFramedBound, bound_by_framed}
use Rattle.call_rules.proofs.FramedNumbers.{have_framed_bound}
use Rattle.call_proof.specs.Checked.{AreFramed}

-- what is so of each in a list is so at a place
pub at_place : {X : Type 0} (P : X → Type 0) (xs : List X) (k : ℕ) (x : X) → All P xs → slice_get xs k ≡ Some x → P x
at_place P xs k x all here =
    subst P (get_or_from_slice_get xs k x x here) (all k x (slice_get_within xs k x here))

-- ## Starts

module _ (n : CallNodes) (s : State) where
  -- an instance is the nodes of its list
  instance_is : (number : ℕ) (instance : Instance) → IsListOf (children n) n.lists number instance.network
      → opened s instance.network ≡ opened s (ordered (map (node_at n) (list_at n.lists number)))
  instance_is number instance is =
      ap (opened s)
      (is.in_order
      ∙ ap ordered (sym (nodes_are (children n) (list_at n.lists number) instance.network.children is.nodes)))

  -- so are those of the same rank
  pub lists_ranked : (lists : List ℕ) (instances : List Instance) → AreListsOf (children n) n.lists lists instances → (rank : ℕ)
      → option_map (λ (x : Instance). opened s x.network) (slice_get instances rank)
      ≡ option_map (λ k. opened s (ordered (map (node_at n) (list_at n.lists k)))) (slice_get lists rank)
  lists_ranked [] [] are rank = refl
  lists_ranked [] (x ∷ xs) are rank = absurd are
  lists_ranked (k ∷ ks) [] are rank = absurd are
  lists_ranked (k ∷ ks) (x ∷ xs) are zero = ap Some (instance_is k x are.0)
  lists_ranked (k ∷ ks) (x ∷ xs) are (suc rank) = lists_ranked ks xs are.1 rank

-- the frame of all atoms
abbrev whole_frame : Frame
whole_frame a = true

-- all literals are in it
all_literals_in : (literals : List Literal) → are_literals_in whole_frame literals ≡ true
all_literals_in [] = refl
all_literals_in (atom sign a ∷ literals) = all_literals_in literals
all_literals_in (equality sign x y ∷ literals) = all_literals_in literals

-- no value
abbrev no_value : List ℕ → ℕ → ℕ
no_value nodes i = 0

-- an image that is there is that of something
mapped : {A B : Type 0} (f : A → B) (o : Option A) (y : B) → option_map f o ≡ Some y
    → (x : A) × (o ≡ Some x) × (f x ≡ y)
mapped f None y h = absurd (none-some y h)
mapped f (Some x) y h = (x, refl, same_Some (f x) y h)

module _ {S : Type 0} (t : Task) (n : CallNodes) (masks : List (List ℕ)) (table whole : CallTable)
    (values : IndexMap Site ℕ S) (cap : ℕ) (starts : List ℕ) (typed : IsWellTyped t) (own : AreNodes t n)
    (framed : AreFramed t n masks table whole)
    (lists : AreListsOf (children n) n.lists starts (distinct (initials t))) where
  -- in which states the goal holds, by number
  abbrev pub ends : List Bool
  ends = map (λ words. holds (state_of n.atoms words) (problem_of t).goal) n.states

  abbrev passes : State → Bool
  passes = is_as_at_first (problem_of t)

  abbrev size : Child → ℕ
  size = size_of n.sizes.now

  abbrev own_sites : List (ℕ × ℕ)
  own_sites = sites t n table framed.rules

  -- the states and nodes of the sites have numbers
  inside : (p : ℕ × ℕ) → Contains own_sites p → (p.0 < length n.states) × (p.1 < length (children n))
  inside p there =
      let from = in_mapped (λ (q : Site × Call). (q.0.state, q.0.number)) p table.calls.entries there in
      let rules : AreRulesAt n t from.0.0.state from.0.0.number from.0.1.rules.items =
      All-contains (λ (q : Site × Call). AreRulesAt n t q.0.state q.0.number q.1.rules.items) table.calls.entries
      from.0 framed.rules from.1 in
      subst (λ (q : ℕ × ℕ). (q.0 < length n.states) × (q.1 < length (children n))) from.2 (rules.state, rules.node)

  -- and are apart
  framed_sites : AreFramedSites (state_at n) (block_at n) (frame_at n masks) (listing table) own_sites
  framed_sites = record {
    listed = (at_sites t n table framed.rules own).listed;
    states = λ p q one other same.
        one_state n.atoms n.states own.atoms.table own.sets own.states_apart p.0 q.0 (inside p one).0 (inside q other).0
        same;
    blocks = λ p q one other same.
        one_node (children n) own.nodes_apart p.1 q.1 (inside p one).1 (inside q other).1 same;
  }

  -- nodes that have rules read and write in their frames
  reads_in : (i j : ℕ) (rs : List (model.Rule ℕ ℕ)) → numbers n.lists table i j ≡ Some rs
      → IsFrameOf (problem_of t) (node_at n j) (frame_at n masks j)
  reads_in i j rs known =
      let call = mapped (λ (c : Call). map (rule_view n.lists) c.rules.items) (call_at table i j) rs known in
      let rules = rules_are t n table framed.rules i j call.0 call.1 in
      framed.reads j (node_at n j) (slice_get-get_or (children n) j (precondition []) rules.node)

  -- the numbers are checked
  checked : AreFramedNumbersChecked t passes size (state_at n) (node_at n) (frame_at n masks) whole_frame
      (numbers n.lists table) (listing table) own_sites (nodes_of n.lists.counts) cap no_value
  checked = record {
    ruled = ruled t n table framed.rules;
    reads = reads_in;
    goal = all_literals_in (problem_of t).goal;
    at_sites = framed_sites;
    counted = sizes_below size (children n) n.lists.counts own.sizes;
    closed = framed.closed;
    valued = record {
      ended = λ i. omega arith;
      called = λ i j rest. inl (omega arith);
    };
  }

  -- steps lead from states that are as at first to such, and lower the sizes by one at most
  measured : AreMeasuredAtFirst t
  measured = measures_are_sizes t (tasks_are_grounded t typed)

  -- the bound by the calls
  abbrev low : Config → ℕ
  low =
      bound_by_framed t passes size (state_at n) (node_at n) (frame_at n masks) whole_frame (numbers n.lists table)
      (listing table) own_sites (nodes_of n.lists.counts) cap no_value

  bounded : HaveFramedBound t passes size (state_at n) (node_at n) (frame_at n masks) whole_frame
      (numbers n.lists table) (listing table) own_sites (nodes_of n.lists.counts) cap no_value
  bounded =
      have_framed_bound t passes size (state_at n) (node_at n) (frame_at n masks) whole_frame (numbers n.lists table)
      (listing table) own_sites (nodes_of n.lists.counts) cap no_value checked (measured.lowers size own.measure) measured.kept

  -- it is no less than the estimate by the calls in whole states
  above : (i : ℕ) (nodes : List ℕ) → passes (state_at n i) ≡ true
      → estimate_of n.lists whole ends cap nodes i ≤ low (config_at n i nodes)
  above i nodes passes_there =
      bounded.above_lifted (listing whole) (ends_in ends) framed.lifted
      (ends_below (λ words. holds (state_of n.atoms words) (problem_of t).goal) n.states cap) i nodes passes_there

  -- where the goal is said to hold, it does
  goal : (i : ℕ) → slice_get ends i ≡ Some true → holds (state_at n i) (problem_of t).goal ≡ true
  goal = ends_hold (λ words. holds (state_of n.atoms words) (problem_of t).goal) n.states

  -- the first state is the initial one
  passed : passes (state_at n 0) ≡ true
  passed = ap passes own.start ∙ measured.first

  -- the machine starts with the lists
  started : (rank : ℕ)
      → slice_get (listing_machine t).initials rank ≡ option_map (λ k. config_at n 0 (list_at n.lists k)) (slice_get starts rank)
  started rank =
      starts_are_ranked t rank ∙ lists_ranked n t.initial_atoms starts (distinct (initials t)) lists rank
      ∙ ap (λ (s : State). option_map (λ k. opened s (ordered (map (node_at n) (list_at n.lists k)))) (slice_get starts rank))
      (sym own.start)

  module _ (are : AreEstimates n.lists whole ends cap values) where
    -- what is left of a list is no more than the bound of what the machine starts with
    start_below : (steps k : ℕ) (c : Config) → slice_get (listing_machine t).initials k ≡ Some c
        → ((number : ℕ) → slice_get starts k ≡ Some number → AreLeft n.lists whole values steps 0 (list_at n.lists number))
        → steps ≤ low c
    start_below steps k c there left = by (slice_get starts k) refl (sym (started k) ∙ there)
      where
        by : (o : Option ℕ) → slice_get starts k ≡ o → option_map (λ j. config_at n 0 (list_at n.lists j)) o ≡ Some c
            → steps ≤ low c
        by None here is = absurd (none-some c is)
        by (Some number) here is =
            subst (λ d. steps ≤ low d) (same_Some (config_at n 0 (list_at n.lists number)) c is)
            (left_below t (state_at n) (node_at n) n.lists whole values ends cap passes low
            (ruled t n whole framed.whole_rules) measured.kept are above goal steps 0 (list_at n.lists number) passed
            (left number here))

    -- a bounded word has a certificate
    certificate : (word : List ℕ) → IsBoundedWord n.lists whole values ends starts word
        → IsCertificate (listing_machine t) low word
    certificate [] is = absurd is
    certificate (initial ∷ ranks) is = record {
      from = config_at n 0 (list_at n.lists is.from);
      at = started initial ∙ ap (option_map (λ k. config_at n 0 (list_at n.lists k))) is.at;
      way =
          least_way t (state_at n) (node_at n) n.lists whole values ends cap passes low
          (ruled t n whole framed.whole_rules) measured.kept are above goal ranks 0 (list_at n.lists is.from) passed
          is.way;
      before = λ k c less there.
          (let more = start_below (length ranks + 1) k c there
          (λ number here. among_first
          (λ j. AreLeft n.lists whole values (length ranks + 1) 0 (list_at n.lists j)) starts initial k number is.before less here)
          in omega arith);
      none_fewer = λ k c there.
          start_below (length ranks) k c there
          (λ number here. at_place
          (λ j. AreLeft n.lists whole values (length ranks) 0 (list_at n.lists j)) starts k number is.none_fewer here);
    }

    -- and so it is the least finishing one
    pub least_in : (word : List ℕ) → IsBoundedWord n.lists whole values ends starts word → (bound : ℕ)
        → step_count word ≤ bound → IsLeastFinishing (listing_machine t) bound word
    least_in word is bound within = certified (listing_machine t) low bounded.below bound word within (certificate word is)
