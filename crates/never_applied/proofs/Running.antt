-- A solution whose nodes are all known runs through states within the facts that the known actions keep to.
use Rattle.std.proofs.Common.{◌≡◌, ℕ, Bool, true, false, List, [], ◌∷◌, Some, ◌⊎◌, inl, inr, refl, sym, ap, ◌∙◌, subst}
use Rattle.std.specs.List.{list_any}
use Rattle.htn_model.specs.Choice.{child_of, splice}
use Rattle.htn_model.specs.Code.{Placed, front_at, children_at, placed, Peels, IsCode}
use Rattle.htn_model.specs.Exhaustion.{is_dead_literal}
use Rattle.htn_model.specs.Literal.{Action, holds}
use Rattle.htn_model.specs.Machine.{Config, Choice, result_of, start}
use Rattle.htn_model.specs.Problem.{Child, precondition, action, task, GroundTask, IsGrounded, Order, Problem, perform}
use Rattle.htn_model.specs.State.{State}
use Rattle.htn_model.specs.Tree.{Node, Nodes, Place, Solution, IsSolution, before, root}
use Rattle.htn_model.proofs.Exhaustion.{Agrees, chosen_agrees}
use Rattle.htn_model.proofs.OneToOne.{followed_of, one_to_one, own_order}
use Rattle.htn_model.proofs.Onward.{Followed, onward}
use Rattle.htn_model.proofs.Steps.{Decomposes, Executes, chosen, same_child}
use Rattle.heuristics.proofs.StatesLast.{alive_literals}
use Rattle.heuristics.specs.Facts.{Facts, are_possible, has_effects, is_within}
use Rattle.heuristics.proofs.Factual.{all_possible, cond_passed, performed_action, within_after}
use Rattle.never_applied.specs.Solutions.{AllBelow}
use Rattle.never_applied.proofs.Fronts.{InFront, after_replaced, before_replaced, below_placed, placed_below, stands_so}

module _ (problem : Problem) (grounded : IsGrounded problem) (f : Facts) where
  -- a step or an action may be carried out by the facts, and no literal of it is dead
  abbrev pub MayBe : Child → Type 0
  MayBe (precondition literals) = (are_possible f literals ≡ true) × (list_any (is_dead_literal problem) literals ≡ false)
  MayBe (action g) =
      (a : Action) × (problem.action_of g ≡ Some a) × (are_possible f a.precondition ≡ true) × (list_any (is_dead_literal problem) a.precondition ≡ false)
  MayBe (task g) = Unit {0}

  -- what is carried out may be
  performed_may_be : (s next : State) (x : Child) → Agrees problem grounded s → is_within f s ≡ true → perform problem s x ≡ Some next → MayBe x
  performed_may_be s next (precondition literals) agrees within is =
      let held = (cond_passed (holds s literals) s next is).0 in (all_possible f s within literals held, alive_literals problem grounded s literals agrees held)
  performed_may_be s next (action g) agrees within is =
      let made = performed_action problem g s next (problem.action_of g) refl is in
      (made.0, made.1, all_possible f s within made.0.precondition made.2, alive_literals problem grounded s made.0.precondition agrees made.2)
  performed_may_be s next (task g) agrees within is = tt

  module _ (known : Child → Bool)
      (effects : (g : GroundTask) (a : Action) → known (action g) ≡ true → problem.action_of g ≡ Some a → are_possible f a.precondition ≡ true → has_effects f a ≡ true) where
    -- the state after it is within the facts, if it is known
    performed_within : (s next : State) (x : Child) → is_within f s ≡ true → known x ≡ true → perform problem s x ≡ Some next → is_within f next ≡ true
    performed_within s next (precondition literals) within is_known is =
        subst (λ (t : State). is_within f t ≡ true) (cond_passed (holds s literals) s next is).1 within
    performed_within s next (action g) within is_known is =
        let made = performed_action problem g s next (problem.action_of g) refl is in
        subst (λ (t : State). is_within f t ≡ true) made.3
        (within_after f s within made.0 (effects g made.0 is_known made.1 (all_possible f s within made.0.precondition made.2)))
    performed_within s next (task g) within is_known is = absurd cc

    -- a node is known
    abbrev pub IsKnown : Node → Type 0
    IsKnown n = known (root n) ≡ true

    -- a node may be
    abbrev pub MayBeNode : Node → Type 0
    MayBeNode n = MayBe (root n)

    module _ (order : Order) (trees : Nodes) where
      -- what stands where a choice is made may be, and the state after is within the facts
      record Stepped (c : Config) (choice : Choice) (n : Node) : Type 0 where
        may_be : MayBeNode n
        within : is_within f choice.state ≡ true

      -- by what is chosen
      stepped : (c : Config) (number : ℕ) (choice : Choice) (n : Node) → Agrees problem grounded c.state → is_within f c.state ≡ true → IsKnown n
          → child_of c.open_nodes choice.position ≡ root n → Decomposes problem c number choice ⊎ Executes problem c number choice → Stepped c choice n
      stepped c number choice n agrees within is_known stands (inl d) = record {
        may_be = subst MayBe (sym d.is_task ∙ stands) tt;
        within = subst (λ (s : State). is_within f s ≡ true) (sym d.state) within;
      }
      stepped c number choice n agrees within is_known stands (inr e) =
          let performs : perform problem c.state (root n) ≡ Some choice.state = ap (perform problem c.state) (sym stands) ∙ e.performs in
          record { may_be = performed_may_be c.state choice.state (root n) agrees within performs; within = performed_within c.state choice.state (root n) within is_known performs }

      -- what a run shows
      record Shown (front : List Placed) : Type 0 where
        nodes : InFront MayBeNode front
        goal : are_possible f problem.goal ≡ true

      -- at the end the goal holds
      ended : (c : Config) (front : List Placed) (list : List Place) → Followed problem grounded order trees front list c → is_within f c.state ≡ true → front ≡ [] → list ≡ [] → Shown front
      ended c front list g within none done =
          let reaches = subst (λ (l : List Place). Followed problem grounded order trees front l c) done g in
          let at = reaches.goal in
          let same : c.state ≡ at.0 = (let e = at.1 in cc) in
          record {
            nodes = subst (InFront MayBeNode) (sym none) tt;
            goal = all_possible f at.0 (subst (λ (s : State). is_within f s ≡ true) same within) problem.goal at.2;
          }

      -- along a word
      runs : (word : List ℕ) (front : List Placed) (list : List Place) (c : Config) → Followed problem grounded order trees front list c → Peels (before problem order trees) word front list
          → Agrees problem grounded c.state → is_within f c.state ≡ true → InFront IsKnown front → Shown front
      runs [] front list c g p agrees within is_known = ended c front list g within p.0 p.1
      runs (number ∷ word) front list c g p agrees within is_known =
          let o = onward problem grounded order trees front list c number (Peels (before problem order trees) word) g p in
          let i = o.choice.position in
          let kinds = chosen problem c number o.choice o.chooses in
          let n = (front_at front i).node in
          let here = stepped c number o.choice n agrees within (stands_so IsKnown front i o.within is_known) (same_child problem order trees front c g.matches i o.within) kinds in
          let rest = runs word (splice i (children_at (front_at front i)) front) o.rest (result_of c o.choice) o.followed o.peels (chosen_agrees problem grounded c number o.choice agrees kinds) here.within (after_replaced IsKnown front i o.within is_known) in
          record { nodes = before_replaced MayBeNode front i o.within here.may_be rest.nodes; goal = rest.goal }

    -- of a solution whose nodes are all known
    pub record MayAllBe (s : Solution) : Type 0 where
      pub nodes : AllBelow MayBeNode s.trees
      pub goal : are_possible f problem.goal ≡ true

    -- each node may be
    pub solution_runs : is_within f problem.initial_state ≡ true → (s : Solution) → IsSolution problem s → AllBelow IsKnown s.trees → MayAllBe s
    solution_runs within s solves is_known =
        let coded = (one_to_one problem grounded).code s solves in by coded.0 coded.1
      where
        by : (word : List ℕ) → IsCode problem s word → MayAllBe s
        by [] code = absurd code
        by (number ∷ word) code =
            let shown = runs solves.network.order s.trees word (placed [] 0 s.trees) s.linearisation (start problem solves.network) (followed_of problem grounded s solves)
            (subst (λ o. Peels (before problem o s.trees) word (placed [] 0 s.trees) s.linearisation) (own_order problem grounded s solves) code.1)
            (λ a still. refl) within (placed_below IsKnown [] 0 s.trees is_known) in
            record { nodes = below_placed MayBeNode [] 0 s.trees shown.nodes; goal = shown.goal }
