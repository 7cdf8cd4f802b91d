-- The expansions of many networks are stored, one after another.
use Rattle.std.proofs.Common.{◌≡◌, ℕ, suc, ◌+◌, ◌<◌, List, [], ◌∷◌, ◌++◌, length, map, get_or, set, take, refl, sym, ap, ap₂, subst, ◌∙◌, arith, All, Option, Some, None, IfSome, IsSome, Ok, Err, Result, true≢false, slice_get, length-append}
use Rattle.std.proofs.Math.Seq.{take-suc}
use Rattle.std.proofs.lemmas.List.{get_or-set_other, get_or_append_left, length-set}
use Rattle.std.proofs.lemmas.List.Elements.{All-nil, All-push}
use Rattle.std.proofs.lemmas.Option.{slice_get-get_or}
use Rattle.std.specs.declared.alloc.AllocError.{AllocError}
use Rattle.std.specs.declared.alloc.Global.{Global}
use Rattle.std.specs.declared.vec.Vec.{Vec}
use Rattle.htn_model.specs.Problem.{Child, Network}
use Rattle.htn_model.specs.Choice.{child_of}
use Rattle.htn_model.specs.PlanFile.{IsWithoutRepeats}
use Rattle.network_table.specs.Children.{AreWhole, numbered_children}
use Rattle.network_table.specs.Numbered.{Numbered, IsWithin, network_of, nothing}
use Rattle.network_table.specs.Entries.{networks_alone}
use Rattle.network_table.specs.Networks.{bound_of, expansion_at, network_at, numbered_at, IsGrown, IsMore, IsNumberOf, IsWhole, Knows}
use Rattle.network_table.specs.Expansions.{AreInstances, IsExpansion, IsSound, Live, first_free}
use Rattle.network_table.specs.Drafts.{AreExpanded, AreKnown, AreRemembered, HoldsFound, HoldsMade, IsFound, IsKnown, IsPlaced, draft_network, drafted}
use Rattle.network_table.specs.declared.assemble.Found.{Found}
use Rattle.network_table.specs.declared.child_table.ChildTable.{ChildTable}
use Rattle.network_table.specs.declared.draft.Draft.{Draft}
use Rattle.network_table.specs.declared.draft.Job.{Job}
use Rattle.network_table.specs.declared.expansion.Expansion.{Expansion}
use Rattle.network_table.specs.declared.expansion.Expansion.TheVariants.{Decomposed, Performed}
use Rattle.network_table.specs.declared.made.Noted.{Noted}
use Rattle.network_table.specs.declared.made.Made.{Made}
use Rattle.network_table.specs.declared.notes.Known.{Known}
use Rattle.network_table.specs.declared.table.NetworkTable.{NetworkTable}
use Rattle.network_table.proofs.Drafting.{KeepsNumbers, drafted_same, keeps_more}
use Rattle.network_table.proofs.Expanding.{all_more, expansion_more, grown_itself, kept_same, put_down_grown, put_down_sound, sound_more}
use Rattle.network_table.proofs.Growing.{grown_then, numbers_stay}
use Rattle.network_table.proofs.Keys.{at_slice}
use Rattle.network_table.proofs.Tables.{more_itself}

-- ## Of many jobs

-- the jobs' networks have numbers
abbrev pub AllKnown : NetworkTable → List Job → Type 0
AllKnown t jobs = All (λ (j : Job). Knows t j.network) jobs

-- a table that has grown has the same networks, by their numbers
pub keeps_grown : (s t : NetworkTable) → IsGrown s t → KeepsNumbers s t
keeps_grown s t grown x known = (
  omega (arith, known, ap length grown.networks, length-append s.networks grown.more),
  ap (λ l. get_or l x nothing) grown.networks ∙ get_or_append_left s.networks grown.more nothing x known,
)

-- the jobs' networks keep their numbers
pub all_known : (s t : NetworkTable) (jobs : List Job) → KeepsNumbers s t → AllKnown s jobs → AllKnown t jobs
all_known s t jobs keeps known = all_more (λ (j : Job). Knows s j.network) (λ (j : Job). Knows t j.network) (λ j own. (keeps j.network own).0) jobs known

-- what is noted of all jobs is noted of one
pub known_of : (t : NetworkTable) (jobs : List Job) (job : Job) (number first : ℕ) (noted : List (Option Known)) → slice_get jobs number ≡ Some job → AreKnown t jobs noted
    → All (λ o. IfSome o (λ (k : Known). k.draft.job ≡ number → IsNumberOf t k.number (drafted t k.draft (Some job)))) noted
known_of t jobs job number first noted there are =
    all_more (λ o. IfSome o (IsKnown t jobs)) (λ o. IfSome o (λ (k : Known). k.draft.job ≡ number → IsNumberOf t k.number (drafted t k.draft (Some job)))) each noted are
  where
    each : (o : Option Known) → IfSome o (IsKnown t jobs) → IfSome o (λ (k : Known). k.draft.job ≡ number → IsNumberOf t k.number (drafted t k.draft (Some job)))
    each None own = tt
    each (Some k) own = λ same. (own.0, own.1 ∙ ap (drafted t k.draft) (ap (slice_get jobs) same ∙ there))

-- ## Remembering

-- the instances of a network stay what they are
pub instances_kept : (live : Live) (s t : NetworkTable) (n : ℕ) (instances : List Numbered) → IsWhole s → IsGrown s t → t.children ≡ s.children → Knows s n → AreInstances live s n instances
    → AreInstances live t n instances
instances_kept live s t n instances whole grown same known given position goal first stands =
    let net : network_at t n ≡ network_at s n = (numbers_stay s t n whole grown known).1 in
    ap (λ (l : List Child). map (network_of l) instances) (ap numbered_children same)
    ∙ given position goal (ap first_free (sym net) ∙ first) (ap (λ (m : Network). child_of m.children position) (sym net) ∙ stands)

-- what is known stays known
pub ready_grown : (s t : NetworkTable) (n : ℕ) → IsGrown s t → IsSome (expansion_at s n) → IsSome (expansion_at t n)
ready_grown s t n grown = by (expansion_at s n) refl
  where
    by : (o : Option Expansion) → expansion_at s n ≡ o → IsSome o → IsSome (expansion_at t n)
    by None is some = absurd (true≢false (sym some))
    by (Some e) is some = subst IsSome (sym (grown.expansions n e is)) some

-- an expansion is right in a table that has grown, too, where no node got a number
expansion_grown : (live : Live) (s t : NetworkTable) (n : ℕ) (e : Expansion) → IsGrown s t → t.children ≡ s.children → Knows s n → IsExpansion live s n e → IsExpansion live t n e
expansion_grown live s t n e grown same known right = at_last e (expansion_more live s before n e more known right)
  where
    before : NetworkTable
    before = record { children = t.children; networks = t.networks; open_lens = t.open_lens; bounds = t.bounds; expansions = s.expansions }

    more : IsMore s before
    more = record { children = same; more = grown.more; networks = grown.networks; expansions = λ m. refl }

    at_last : (e : Expansion) → IsExpansion live before n e → IsExpansion live t n e
    at_last (Decomposed i successors) are = record { goal = are.goal; first = are.first; stands = are.stands; known = are.known; each = are.each }
    at_last (Performed removals) are = record { first = are.first; known = are.known; each = are.each }

-- and the instances were what they are
instances_before : (live : Live) (s t : NetworkTable) (n : ℕ) (instances : List Numbered) → IsWhole s → IsGrown s t → t.children ≡ s.children → Knows s n → AreInstances live t n instances
    → AreInstances live s n instances
instances_before live s t n instances whole grown same known given position goal first stands =
    let net : network_at t n ≡ network_at s n = (numbers_stay s t n whole grown known).1 in
    ap (λ (l : List Child). map (network_of l) instances) (sym (ap numbered_children same))
    ∙ given position goal (ap first_free net ∙ first) (ap (λ (m : Network). child_of m.children position) net ∙ stands)

-- the instances of the jobs' networks stay what they are
all_instances_kept : (live : Live) (s t : NetworkTable) (jobs : List Job) → IsWhole s → AllKnown s jobs → IsGrown s t → t.children ≡ s.children
    → All (λ (j : Job). AreInstances live s j.network j.instances.now) jobs → All (λ (j : Job). AreInstances live t j.network j.instances.now) jobs
all_instances_kept live s t jobs tidy known grown same given k d inside =
    instances_kept live s t (get_or jobs k d).network (get_or jobs k d).instances.now tidy grown same (known k d inside) (given k d inside)

-- nothing more is known at first
pub remembered_none : (t : NetworkTable) (jobs : List Job) → IsWhole t → AreRemembered t t jobs
remembered_none t jobs whole = record { whole = whole; grown = grown_itself t; children = refl; sound = λ live given sound. sound; others = λ n apart. refl }

-- more may be known, and then more
pub remembered_then : (s t u : NetworkTable) (jobs : List Job) → IsWhole s → AllKnown s jobs → AreRemembered s t jobs → AreRemembered t u jobs → AreRemembered s u jobs
remembered_then s t u jobs tidy known first second = record {
  whole = second.whole;
  grown = grown_then s t u first.grown second.grown;
  children = second.children ∙ first.children;
  sound = λ live given old. second.sound live (all_instances_kept live s t jobs tidy known first.grown first.children given) (first.sound live given old);
  others = λ n apart. second.others n apart ∙ first.others n apart;
}

-- networks are added, and no more is known
remembered_more : (s t : NetworkTable) (jobs : List Job) → IsWhole s → IsWhole t → IsMore s t → AreRemembered s t jobs
remembered_more s t jobs whole whole' more = record {
  whole = whole';
  grown = record { children = kept_same s.children t.children more.children; more = more.more; networks = more.networks; expansions = λ n e is. more.expansions n ∙ is };
  children = more.children;
  sound = λ live given old. sound_more live s t whole more old;
  others = λ n apart. more.expansions n;
}

-- networks are added, and then more may be known
pub remembered_after : (s t u : NetworkTable) (jobs : List Job) → IsWhole s → IsWhole t → AllKnown s jobs → IsMore s t → AreRemembered t u jobs → AreRemembered s u jobs
remembered_after s t u jobs tidy whole known more are = remembered_then s t u jobs tidy known (remembered_more s t jobs tidy whole more) are

-- the expansion of one job's network is stored now
pub remembered_one : (s t : NetworkTable) (jobs : List Job) (k : ℕ) (job : Job) → k < length jobs → job ≡ get_or jobs k job → IsWhole t → IsGrown s t → t.children ≡ s.children
    → ((live : Live) → AreInstances live s job.network job.instances.now → IsSound live s → IsSound live t)
    → ((n : ℕ) → (n ≡ job.network → ⊥) → expansion_at t n ≡ expansion_at s n) → AreRemembered s t jobs
remembered_one s t jobs k job inside is whole grown same sound others = record {
  whole = whole;
  grown = grown;
  children = same;
  sound = λ live given. sound live (subst (λ (j : Job). AreInstances live s j.network j.instances.now) (sym is) (given k job inside));
  others = λ n apart. others n (subst (λ (j : Job). n ≡ j.network → ⊥) (sym is) (apart k job inside));
}

-- more expansions may be stored, and then those of all jobs' networks are
pub expanded_then : (s t u : NetworkTable) (jobs : List Job) → IsWhole s → AllKnown s jobs → AreRemembered s t jobs → AreExpanded t u jobs → AreExpanded s u jobs
expanded_then s t u jobs tidy known first second =
    let all = remembered_then s t u jobs tidy known first (record { whole = second.whole; grown = second.grown; children = second.children; sound = second.sound; others = second.others }) in
    record { whole = all.whole; grown = all.grown; children = all.children; ready = second.ready; sound = all.sound; others = all.others }

-- ## What was found

-- the expansion of the network of the job at a place
pub found_right : (t : NetworkTable) (jobs : List Job) (k : ℕ) (job : Job) (e : Expansion) → k < length jobs → job ≡ get_or jobs k job
    → ((live : Live) → AreInstances live t job.network job.instances.now → IsExpansion live t job.network e) → IsFound t jobs (record { job = k; expansion = e })
found_right t jobs k job e inside is right = (
  inside,
  λ other there. subst (λ (j : Job). (live : Live) → AreInstances live t j.network j.instances.now → IsExpansion live t j.network e) (is ∙ (at_slice jobs k other job there).1) right,
)

-- what was found stays right
pub found_kept : (s t : NetworkTable) (jobs : List Job) (found : Found) → IsWhole s → AllKnown s jobs → AreRemembered s t jobs → IsFound s jobs found → IsFound t jobs found
found_kept s t jobs found tidy known are (inside, right) = (
  inside,
  λ job there live given.
      let own : Knows s job.network = subst (λ (j : Job). Knows s j.network) (at_slice jobs found.job job job there).1 (known found.job job inside) in
      expansion_grown live s t job.network found.expansion are.grown are.children own
      (right job there live (instances_before live s t job.network job.instances.now tidy are.grown are.children own given)),
)

-- so does what a worker found
pub holds_kept : (s t : NetworkTable) (jobs : List Job) (r : Result (Vec Found Global) AllocError) → IsWhole s → AllKnown s jobs → AreRemembered s t jobs → HoldsFound s jobs r → HoldsFound t jobs r
holds_kept s t jobs (Ok v) tidy known are holds = all_more (IsFound s jobs) (IsFound t jobs) (λ found right. found_kept s t jobs found tidy known are right) v.items holds
holds_kept s t jobs (Err e) tidy known are holds = tt

-- a table is whole after the expansion of a network is stored
pub whole_after : (s t : NetworkTable) (n : ℕ) (e : Option Expansion) → IsWhole s → t.children ≡ s.children → t.networks ≡ s.networks → t.open_lens.items ≡ s.open_lens.items
    → t.bounds.items ≡ s.bounds.items → t.expansions.items ≡ set s.expansions.items n e → IsWhole t
whole_after s t n e whole children_are networks_are open_lens_are bounds_are expansions_are = record {
  nodes = subst AreWhole (sym children_are) whole.nodes;
  distinct = subst (λ (l : List Numbered). IsWithoutRepeats l) (sym networks_are) whole.distinct;
  within = subst (λ (c : ChildTable). All (IsWithin (numbered_children c)) t.networks) (sym children_are)
      (subst (All (IsWithin (numbered_children s.children))) (sym networks_are) whole.within);
  open_lens = open_lens_are ∙ whole.open_lens ∙ ap (map (λ (m : Numbered). length m.nodes)) (sym networks_are);
  bounds = bounds_are ∙ whole.bounds ∙ ap₂ (λ (c : ChildTable) (l : List Numbered). map (bound_of c) l) (sym children_are) (sym networks_are);
  expansions = ap length expansions_are ∙ length-set s.expansions.items n e ∙ whole.expansions ∙ ap length (sym networks_are);
}

-- what was found of a network is put down where nothing is known of it
pub put_down : (s t : NetworkTable) (jobs : List Job) (found : Found) (job : Job) → IsWhole s → IsWhole t → AllKnown s jobs → IsFound s jobs found → job ≡ get_or jobs found.job job
    → expansion_at s job.network ≡ None → t.children ≡ s.children → t.networks ≡ s.networks → t.expansions.items ≡ set s.expansions.items job.network (Some found.expansion)
    → AreRemembered s t jobs
put_down s t jobs found job tidy whole known (inside, right) is none children_are networks_are expansions_are =
    let own : Knows s job.network = subst (λ (j : Job). Knows s j.network) (sym is) (known found.job job inside) in
    remembered_one s t jobs found.job job inside is whole
    (put_down_grown s s t job.network found.expansion (more_itself s) own tidy tidy children_are networks_are expansions_are none) children_are
    (λ live given. put_down_sound s s t job.network found.expansion (more_itself s) own tidy tidy children_are networks_are expansions_are live
    (right job (slice_get-get_or jobs found.job job inside ∙ ap Some (sym is)) live given))
    (λ n apart. ap (λ l. get_or l n None) expansions_are ∙ get_or-set_other s.expansions.items job.network n (Some found.expansion) None apart)

-- ## One after another

-- the expansions of the first jobs' networks are stored, while the rest are left
pub record AreFirst (s t : NetworkTable) (jobs : List Job) (k : ℕ) : Type 0 where
  pub are : AreRemembered s t jobs
  pub ready : All (λ (j : Job). IsSome (expansion_at t j.network)) (take k jobs)

-- at first nothing has changed
pub first_none : (t : NetworkTable) (jobs : List Job) → IsWhole t → AreFirst t t jobs 0
first_none t jobs whole = record { are = remembered_none t jobs whole; ready = All-nil (λ (j : Job). IsSome (expansion_at t j.network)) }

-- one more job is done
pub first_next : (s t u : NetworkTable) (jobs : List Job) (k : ℕ) (job : Job) → IsWhole s → AllKnown s jobs → AreFirst s t jobs k → k < length jobs
    → job ≡ get_or jobs k job → IsWhole u → IsGrown t u → IsSome (expansion_at u job.network)
    → ((live : Live) → AreInstances live t job.network job.instances.now → IsSound live t → IsSound live u)
    → ((n : ℕ) → (n ≡ job.network → ⊥) → expansion_at u n ≡ expansion_at t n) → u.children ≡ t.children → AreFirst s u jobs (k + 1)
first_next s t u jobs k job tidy known first inside is whole grown ready sound others same =
    let P = λ (j : Job). IsSome (expansion_at u j.network) in
    let longer : take (k + 1) jobs ≡ take k jobs ++ job ∷ [] =
    (let e : k + 1 ≡ suc k = omega arith in ap (λ i. take i jobs) e ∙ take-suc jobs k job inside ∙ ap (λ x. take k jobs ++ x ∷ []) (sym is)) in
    let before = all_more (λ (j : Job). IsSome (expansion_at t j.network)) P (λ j some. ready_grown t u j.network grown some) (take k jobs) first.ready in
    record {
      are = remembered_then s t u jobs tidy known first.are (remembered_one t u jobs k job inside is whole grown same sound others);
      ready = subst (All P) (sym longer) (All-push P (take k jobs) job before ready);
    }

-- at last all are done
pub first_all : (s t : NetworkTable) (jobs : List Job) (k : ℕ) → AreFirst s t jobs k → take k jobs ≡ jobs → AreExpanded s t jobs
first_all s t jobs k first all =
    let are = first.are in
    record {
      whole = are.whole;
      grown = are.grown;
      children = are.children;
      ready = subst (All (λ (j : Job). IsSome (expansion_at t j.network))) all first.ready;
      sound = are.sound;
      others = are.others;
    }

-- ## Numbering

-- what was made stays right while networks are added
pub made_more : (s t : NetworkTable) (jobs : List Job) → AllKnown s jobs → IsMore s t → (r : Result Made AllocError) → HoldsMade s jobs r → HoldsMade t jobs r
made_more s t jobs known more (Ok m) are =
    let same : (d : Draft) → draft_network t jobs d ≡ draft_network s jobs d = λ d. drafted_same s t jobs d (all_more (λ (j : Job). Knows s j.network) (λ (j : Job). numbered_at t j.network ≡ numbered_at s j.network) (λ j own. (keeps_more s t more j.network own).1) jobs known) in (
      record {
        alone = are.0.alone;
        within = subst (λ (l : List Child). All (IsWithin l) (networks_alone m.networks.items)) (ap numbered_children (sym more.children)) are.0.within;
        placed = all_more (IsPlaced s jobs (networks_alone m.networks.items)) (IsPlaced t jobs (networks_alone m.networks.items)) (λ p own. (own.0, own.1 ∙ sym (same p.draft))) m.places.items are.0.placed;
      },
      all_more (λ (n : Noted). IsKnown s jobs n.known) (λ (n : Noted). IsKnown t jobs n.known)
          (λ n own. (let after = keeps_more s t more n.known.number own.0 in (after.0, after.1 ∙ own.1 ∙ sym (same n.known.draft))))
          m.noted.items are.1,
    )
made_more s t jobs known more (Err e) are = tt

-- what holds of all holds of the first
pub holds_first : {X : Type 0} (P : X → Type 0) (xs ys : List X) (x : X) → xs ≡ x ∷ ys → All P xs → P x
holds_first P xs ys x is all = subst (All P) is all 0 x (omega arith)

-- and of the rest
pub holds_rest : {X : Type 0} (P : X → Type 0) (xs ys : List X) (x : X) → xs ≡ x ∷ ys → All P xs → All P ys
holds_rest P xs ys x is all k d inside = subst (All P) is all (suc k) d (omega (arith, inside))
