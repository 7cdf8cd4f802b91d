-- The networks of a line's instances, method by method.
use Rattle.std.proofs.Common.{◌≡◌, ◌∙◌, ◌+◌, ◌<◌, ◌≤◌, ◌++◌, ◌∷◌, Bool, List, None, Option, Some, [], ap, arith, false, inl, inr, length, map, nat_eq, refl, replicate, slice_get, subst, sym, true, ℕ}
use Rattle.std.specs.Cmp.{unsigned_Decides}
use Rattle.std.specs.Option.{option_map}
use Rattle.std.proofs.lemmas.List.{map-append}
use Rattle.std.proofs.lemmas.Option.{slice_get-map}
use Rattle.htn_model.specs.Instance.{Instance}
use Rattle.htn_model.specs.Instances.{Conditions, have_types, initial_conditions, initial_instance, initials, instances, meets, method_conditions, method_instance, network_of, value_of}
use Rattle.htn_model.specs.PlanFile.{IsIn, IsRearrangementOf, Word}
use Rattle.htn_model.specs.Problem.{GroundTask, Network}
use Rattle.htn_model.specs.Schema.{Formula, NetworkSchema}
use Rattle.htn_model.specs.Task.{MethodSchema, Task}
use Rattle.htn_model.specs.Verdict.{subtasks}
use Rattle.plan_lines.specs.Turns.{History}
use Rattle.plan_lines.specs.Allowed.{IsInstanceWith}
use Rattle.plan_lines.specs.Fitting.{AreToFit, StepsMayHold}
use Rattle.plan_lines.specs.Found.{AreValuesToFit, IsFor}
use Rattle.plan_lines.specs.Given.{Extends, Narrows}
use Rattle.plan_lines.specs.Left.{Fill, left_of, times}
use Rattle.plan_lines.specs.Lines.{HasSubtasks, IsInitial, IsNamedInstance}
use Rattle.plan_lines.proofs.Exchanged.{first_of, types_long}
use Rattle.plan_lines.proofs.Gathering.{found_as, found_none}
use Rattle.plan_lines.proofs.Narrowed.{nothing_given}
use Rattle.plan_lines.proofs.Searched.{same_task}
use Rattle.plan_lines.proofs.Shown.{Shown, at_in, fill_from, got_below, in_at, in_either, in_instances, in_join_left, in_join_right, in_map, instance_in, instance_shown, map_in, network_subtasks, shown_instance, some_mapped}

-- the fill of a network's subtasks
pub fill_network : (t : Task) (tasks children : List GroundTask) (left values : List ℕ) (m : MethodSchema) (network : Network) → ((g : GroundTask) → times g children ≡ left_of tasks left g)
    → network ≡ network_of t values m.precondition m.network → HasSubtasks children network → Fill tasks left m.network.subtasks values
fill_network t tasks children left values m network counts is r =
    fill_from tasks children left m.network.subtasks values counts
    (subst (IsRearrangementOf children) (ap (λ (w : Network). subtasks w.children) is ∙ network_subtasks t values m.precondition m.network) r)

module _ (t : Task) (h : History) (g : GroundTask) (method : Word) (children : List GroundTask) where
  -- the networks of the first so many methods
  pub record FitSoFar (networks : List Network) (n : ℕ) : Type 0 where
    pub each : (network : Network) → IsIn network networks → IsNamedInstance t g method network
    pub all : (network : Network) (s : Shown t g method network) → s.number < n → HasSubtasks children network → StepsMayHold h network.children → IsIn network networks

  -- no networks of no methods
  pub fit_none : FitSoFar [] 0
  fit_none = record { each = λ network i. absurd i; all = λ network s below has may. absurd (omega (arith, below)) }

  -- one method more, whose networks are added
  step : (networks added : List Network) (n : ℕ) (m : MethodSchema) → slice_get t.methods n ≡ Some m → FitSoFar networks n
      → ((network : Network) → IsIn network added → IsNamedInstance t g method network)
      → ((values : List ℕ) (network : Network) → m.name ≡ method → IsFor t g m values → network ≡ network_of t values m.precondition m.network → HasSubtasks children network → StepsMayHold h network.children → IsIn network added)
      → FitSoFar (networks ++ added) (n + 1)
  step networks added n m at before is_one all_there = record {
    each = λ network i. elim (in_either network networks added i) [ inl a ↦ before.each network a | inr b ↦ is_one network b ];
    all = λ network s below has may. by network s below has may (nat_eq s.number n) refl;
  }
    where
      by : (network : Network) (s : Shown t g method network) → s.number < n + 1 → HasSubtasks children network → StepsMayHold h network.children → (b : Bool) → nat_eq s.number n ≡ b
          → IsIn network (networks ++ added)
      by network s below has may true e =
          let both_at : Some m ≡ Some s.schema = sym at ∙ ap (slice_get t.methods) (sym ((unsigned_Decides s.number n).0 e)) ∙ s.at in
          let same : m ≡ s.schema = cc in
          let P : MethodSchema → Type 0 = λ k. (values : List ℕ) (w : Network) → k.name ≡ method → IsFor t g k values → w ≡ network_of t values k.precondition k.network → HasSubtasks children w → StepsMayHold h w.children → IsIn w added in
          in_join_right network networks added (subst P same all_there s.values network s.named (s.goal, s.instance) s.is has may)
      by network s below has may false e =
          let apart : s.number ≡ n → ⊥ = λ same. let yes : nat_eq s.number n ≡ true = (unsigned_Decides s.number n).1 same in absurd cc in
          in_join_left network networks added (before.all network s (omega (arith, below, apart)) has may)

  -- a method with another name
  pub fit_other : (networks : List Network) (n : ℕ) (m : MethodSchema) → slice_get t.methods n ≡ Some m → (m.name ≡ method → ⊥) → FitSoFar networks n → FitSoFar networks (n + 1)
  fit_other networks n m at other before =
      subst (λ (l : List Network). FitSoFar l (n + 1)) (no_more networks)
      (step networks [] n m at before (λ network i. absurd i) (λ values network named f is has may. absurd (other named)))
    where
      no_more : {X : Type 0} (xs : List X) → xs ++ [] ≡ xs
      no_more [] = refl
      no_more (x ∷ xs) = ap (λ l. x ∷ l) (no_more xs)

  -- a method with the name
  pub fit_more : (networks : List Network) (n : ℕ) (m : MethodSchema) (tasks : List GroundTask) (left : List ℕ) (values : List (List ℕ)) → slice_get t.methods n ≡ Some m → m.name ≡ method
      → ((k : GroundTask) → times k children ≡ left_of tasks left k) → AreValuesToFit t h tasks left m.precondition m.network (IsFor t g m) values → FitSoFar networks n
      → FitSoFar (networks ++ map (λ v. network_of t v m.precondition m.network) values) (n + 1)
  fit_more networks n m tasks left values at named counts found before =
      step networks (map make values) n m at before
      (λ network i.
      let v = in_map make network values i in
      elim (found.each v.0 v.1) [
        | inl none ↦ absurd none
        | inr f ↦ instance_shown t g method network (record { number = n; schema = m; values = v.0; at = at; named = named; goal = f.0; instance = f.1; is = v.2 })
      ])
      (λ w network same f is has may.
      let one = found.all w (f, fill_network t tasks children left w m network counts is has, subst (λ (k : Network). StepsMayHold h k.children) is may) in
      subst (λ (k : Network). IsIn k (map make values)) (sym (is ∙ one.2)) (map_in make one.0 values one.1))
    where
      make : List ℕ → Network
      make v = network_of t v m.precondition m.network

  -- the networks of all methods are those of the line
  pub fit_all : (networks : List Network) (n : ℕ) → length t.methods ≤ n → FitSoFar networks n → AreToFit h (IsNamedInstance t g method) children networks
  fit_all networks n above found = record {
    each = found.each;
    all = λ network is has may.
        let s = shown_instance t g method network is in
        let below = got_below t.methods s.number s.schema s.at in
        found.all network s (omega (arith, below, above)) has may;
  }

-- the networks of instances of a method
pub method_networks : (t : Task) (number : ℕ) (m : MethodSchema) (old new : List Instance) (values : List (List ℕ)) → new ≡ old ++ map (method_instance t number m) values
    → map (λ (i : Instance). i.network) new ≡ map (λ (i : Instance). i.network) old ++ map (λ v. network_of t v m.precondition m.network) values
method_networks t number m old new values is =
    ap (map (λ (i : Instance). i.network)) is ∙ map-append (λ (i : Instance). i.network) old (map (method_instance t number m) values)
    ∙ ap (λ l. map (λ (i : Instance). i.network) old ++ l) (twice values)
  where
    twice : (vs : List (List ℕ)) → map (λ (i : Instance). i.network) (map (method_instance t number m) vs) ≡ map (λ v. network_of t v m.precondition m.network) vs
    twice [] = refl
    twice (v ∷ vs) = ap (λ l. network_of t v m.precondition m.network ∷ l) (twice vs)

-- ## A method with the task's own arguments given

module _ (t : Task) (h : History) (g : GroundTask) (m : MethodSchema) (tasks : List GroundTask) (left : List ℕ) (n : ℕ) (new : List (Option ℕ)) (many : n ≡ length m.parameters) where
  -- values for the line's task extend none
  given_for : (values : List ℕ) → IsFor t g m values → Extends values (replicate n None) × (map (value_of values) m.task.arguments ≡ g.arguments)
  given_for values (goal, is) =
      let c = method_conditions t m in
      let long = types_long t c.parameters values (first_of (have_types t c.parameters values) (meets t c values) is) in
      (nothing_given values n (omega (arith, long, many)), ap (λ (k : GroundTask). k.arguments) goal)

  -- where the line's arguments give no values there are none
  pub none_fit : Narrows (λ values. map (value_of values) m.task.arguments ≡ g.arguments) (replicate n None) new false → AreValuesToFit t h tasks left m.precondition m.network (IsFor t g m) []
  none_fit none =
      found_none (λ values others. network_of t values m.precondition m.network ≡ network_of t others m.precondition m.network) (IsFor t g m)
      (λ values. IsFor t g m values × Fill tasks left m.network.subtasks values × StepsMayHold h (network_of t values m.precondition m.network).children) []
      (λ values w. let p = given_for values w.0 in none values p.0 p.1)

  -- where they give some, the instances with these are those of the line
  pub goal_fit : (found : List (List ℕ)) → g.name ≡ m.task.name → Narrows (λ values. map (value_of values) m.task.arguments ≡ g.arguments) (replicate n None) new true
      → AreValuesToFit t h tasks left m.precondition m.network (IsInstanceWith t (method_conditions t m) new) found → AreValuesToFit t h tasks left m.precondition m.network (IsFor t g m) found
  goal_fit found named narrows f =
      let Same : List ℕ → List ℕ → Type 0 = λ values others. network_of t values m.precondition m.network ≡ network_of t others m.precondition m.network in
      let B : List ℕ → Type 0 = IsInstanceWith t (method_conditions t m) new in
      found_as Same (IsFor t g m)
      (λ values. IsFor t g m values × Fill tasks left m.network.subtasks values × StepsMayHold h (network_of t values m.precondition m.network).children) B
      (λ values. B values × Fill tasks left m.network.subtasks values × StepsMayHold h (network_of t values m.precondition m.network).children) [] found f
      (λ values b. let r = (narrows values).0 b.0 in (same_task g m.task values named r.1, b.1))
      (λ values w. let p = given_for values w.0 in (((narrows values).1 (p.0, p.1), w.0.1), w.1, w.2))

-- a method for another task has none
pub other_fit : (t : Task) (h : History) (g : GroundTask) (m : MethodSchema) (tasks : List GroundTask) (left : List ℕ) → (m.task.name ≡ g.name → ⊥) → AreValuesToFit t h tasks left m.precondition m.network (IsFor t g m) []
other_fit t h g m tasks left differ =
    found_none (λ values others. network_of t values m.precondition m.network ≡ network_of t others m.precondition m.network) (IsFor t g m)
    (λ values. IsFor t g m values × Fill tasks left m.network.subtasks values × StepsMayHold h (network_of t values m.precondition m.network).children) []
    (λ values w. differ (ap (λ (k : GroundTask). k.name) w.0.0))

-- ## The initial network

module _ (t : Task) (h : History) (roots : List GroundTask) where
  -- the initial network
  abbrev net : NetworkSchema
  net = t.initial_network.network

  -- its conditions
  abbrev c : Conditions
  c = initial_conditions t t.initial_network

  -- the initial networks that may fit the roots
  pub initials_fit : (tasks : List GroundTask) (left : List ℕ) (n : ℕ) (values : List (List ℕ)) (found : List Instance) → n ≡ length t.initial_network.parameters
      → ((k : GroundTask) → times k roots ≡ left_of tasks left k) → AreValuesToFit t h tasks left [] net (IsInstanceWith t (initial_conditions t t.initial_network) (replicate n None)) values
      → found ≡ map (initial_instance t) values → AreToFit h (IsInitial t) roots (map (λ (i : Instance). i.network) found)
  initials_fit tasks left n values found many counts f is =
      subst (λ (l : List Instance). AreToFit h (IsInitial t) roots (map (λ (i : Instance). i.network) l)) (sym is)
      (record {
        each = λ network i.
            let one = in_map (λ (j : Instance). j.network) network (map (initial_instance t) values) i in
            let v = in_map (initial_instance t) one.0 values one.1 in
            elim (f.each v.0 v.1) [
              | inl none ↦ absurd none
              | inr b ↦
                  let at = at_in (initial_instance t v.0) (initials t) (map_in (initial_instance t) v.0 (instances t c) (instance_in t c v.0 b.1)) in
                  (at.0, slice_get-map (λ (j : Instance). j.network) (initials t) at.0 ∙ ap (option_map (λ (j : Instance). j.network)) at.1 ∙ ap Some (sym (one.2 ∙ ap (λ (j : Instance). j.network) v.2)))
            ];
        all = λ network w has may. there network w.0 w.1 has may;
      })
    where
      there : (network : Network) (number : ℕ) → slice_get (map (λ (i : Instance). i.network) (initials t)) number ≡ Some network → HasSubtasks roots network → StepsMayHold h network.children
          → IsIn network (map (λ (i : Instance). i.network) (map (initial_instance t) values))
      there network number at has may =
          let found_at = some_mapped (λ (i : Instance). i.network) (slice_get (initials t) number) network (sym (slice_get-map (λ (i : Instance). i.network) (initials t) number) ∙ at) in
          let v = in_map (initial_instance t) found_at.0 (instances t c) (in_at found_at.0 (initials t) number found_at.1) in
          let instance = in_instances t c v.0 v.1 in
          let is_net : network ≡ network_of t v.0 [] net = sym found_at.2 ∙ ap (λ (j : Instance). j.network) v.2 in
          let long = types_long t c.parameters v.0 (first_of (have_types t c.parameters v.0) (meets t c v.0) instance) in
          let fill = fill_from tasks roots left net.subtasks v.0 counts (subst (IsRearrangementOf roots) (ap (λ (w : Network). subtasks w.children) is_net ∙ network_subtasks t v.0 [] net) has) in
          let one = f.all v.0 ((nothing_given v.0 n (omega (arith, long, many)), instance), fill, subst (λ (k : Network). StepsMayHold h k.children) is_net may) in
          subst (λ (k : Network). IsIn k (map (λ (i : Instance). i.network) (map (initial_instance t) values))) (sym (is_net ∙ one.2))
          (map_in (λ (i : Instance). i.network) (initial_instance t one.0) (map (initial_instance t) values) (map_in (initial_instance t) one.0 values one.1))

-- the same in other words
pub fit_same : (t : Task) (h : History) (tasks : List GroundTask) (left others : List ℕ) (pre conjunction : List Formula) (n net : NetworkSchema) (c d : Conditions) (given more : List (Option ℕ))
    (found : List (List ℕ)) → left ≡ others → pre ≡ conjunction → n ≡ net → c ≡ d → given ≡ more → AreValuesToFit t h tasks left pre n (IsInstanceWith t c given) found
    → AreValuesToFit t h tasks others conjunction net (IsInstanceWith t d more) found
fit_same t h tasks left others pre conjunction n net c d given more found e f k m p fit =
    subst (λ (x : List (Option ℕ)). AreValuesToFit t h tasks others conjunction net (IsInstanceWith t d x) found) p
    (subst (λ (x : Conditions). AreValuesToFit t h tasks others conjunction net (IsInstanceWith t x given) found) m
    (subst (λ (x : NetworkSchema). AreValuesToFit t h tasks others conjunction x (IsInstanceWith t c given) found) k
    (subst (λ (x : List Formula). AreValuesToFit t h tasks others x n (IsInstanceWith t c given) found) f
    (subst (λ (x : List ℕ). AreValuesToFit t h tasks x pre n (IsInstanceWith t c given) found) e fit))))
