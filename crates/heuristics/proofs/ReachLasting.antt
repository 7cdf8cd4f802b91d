-- What may end after a live step might before it, and what may be reached before it may be so after.
use Rattle.std.proofs.Common.{◌≡◌, ℕ, suc, ◌<◌, Bool, true, false, not, cond, ◌&&◌, ◌||◌, List, [], ◌∷◌, length, take, drop, Some, None, ◌⊎◌, inl, inr, refl, sym, ap, ◌∙◌, subst, option_and_then}
use Rattle.std.specs.List.{list_all, list_any}
use Rattle.std.proofs.lemmas.Bool.{and_from, and_parts, and_right, both_ways, cases_Bool, false_from_ne_true, not-true, not_from_false, or_cases, or_left, or_right}
use Rattle.htn_model.specs.State.{State}
use Rattle.htn_model.specs.Problem.{Child, precondition, action, task, IsGrounded, Network, Problem, perform}
use Rattle.htn_model.specs.Literal.{holds}
use Rattle.htn_model.specs.Choice.{child_of, splice}
use Rattle.htn_model.specs.Machine.{Config, Choice, IsDone, result_of}
use Rattle.htn_model.specs.Exhaustion.{LeadsLive, is_dead, live_step}
use Rattle.htn_model.proofs.Steps.{Decomposes, Executes, chosen}
use Rattle.htn_model.proofs.Regrown.{choice_within}
use Rattle.task_graph.specs.Barred.{is_barred, is_barred_by}
use Rattle.heuristics.specs.Measure.{is_as_at_first}
use Rattle.heuristics.proofs.SizesBounds.{live_choice}
use Rattle.heuristics.proofs.SizesBounded.{states_last}
use Rattle.heuristics.proofs.StatesLast.{agreed, alive_literals}
use Rattle.heuristics.specs.Facts.{is_within}
use Rattle.heuristics.specs.Reach.{IsRelaxedReach, Reach, ReachStays, ReachedStays, bars, is_reached, may_end_by, passes}
use Rattle.heuristics.proofs.ReachLists.{all_splice, all_split, any_or, any_splice, any_split}
use Rattle.heuristics.proofs.Factual.{all_possible, cond_passed, performed_action, second, within_after}

-- where one of three passes, one of them does with what follows from the second in its place
follows : (a x y z : Bool) → (x ≡ true → y ≡ true) → (a || (x || z)) ≡ true → (a || (y || z)) ≡ true
follows true x y z up h = refl
follows false true y z up h = ap (λ b. b || z) (up refl)
follows false false y z up h = or_right y z h

-- what follows from a test that is passed
implied : (a b : Bool) → a ≡ true → (not a || b) ≡ true → b ≡ true
implied a b is one = sym (ap (λ x. not x || b) is) ∙ one

module _ (problem : Problem) (grounded : IsGrounded problem) (r : Reach) (right : IsRelaxedReach problem r) where
  -- a node that is carried out isn't barred
  performed_unbarred : (s next : State) (x : Child) → is_as_at_first problem s ≡ true → perform problem s x ≡ Some next → bars r x ≡ false
  performed_unbarred s next (precondition literals) first is = refl
  performed_unbarred s next (action g) first is =
      let made = performed_action problem g s next (problem.action_of g) refl is in
      let alive : is_barred problem g ≡ false = ap (is_barred_by problem) made.1 ∙ alive_literals problem grounded s made.0.precondition (agreed problem grounded s first) made.2 in
      false_from_ne_true _ (λ barred. both_ways _ alive (right.barred g barred))
  performed_unbarred s next (task g) first is = refl

  -- one that is carried out in a state within the facts ends
  performed_ends : (s next : State) (x : Child) → is_within r.facts s ≡ true → perform problem s x ≡ Some next → r.is_blocked x ≡ false
  performed_ends s next (precondition literals) within is =
      false_from_ne_true _ (λ blocked. both_ways _ (right.blocked_step literals blocked) (all_possible r.facts s within literals (cond_passed (holds s literals) s next is).0))
  performed_ends s next (action g) within is =
      let made = performed_action problem g s next (problem.action_of g) refl is in
      false_from_ne_true _ (λ blocked. both_ways _ (right.blocked_action g made.0 made.1 blocked) (all_possible r.facts s within made.0.precondition made.2))
  performed_ends s next (task g) within is = absurd cc

  -- and the state after it is within them, if the node is known
  performed_within : (s next : State) (x : Child) → is_within r.facts s ≡ true → r.is_known x ≡ true → perform problem s x ≡ Some next → is_within r.facts next ≡ true
  performed_within s next (precondition literals) within known is =
      subst (λ (t : State). is_within r.facts t ≡ true) (cond_passed (holds s literals) s next is).1 within
  performed_within s next (action g) within known is =
      let made = performed_action problem g s next (problem.action_of g) refl is in
      subst (λ (t : State). is_within r.facts t ≡ true) made.3
      (within_after r.facts s within made.0 (right.effects g made.0 made.1 known (performed_ends s next (action g) within is)))
  performed_within s next (task g) within known is = absurd cc

  -- ## A choice

  module _ (c : Config) (number : ℕ) (choice : Choice) (kinds : Decomposes problem c number choice ⊎ Executes problem c number choice) (alive : is_dead problem choice.network ≡ false)
      (first : is_as_at_first problem c.state ≡ true) where
    -- the position of what is replaced
    abbrev k : ℕ
    k = choice.position

    -- what is replaced
    abbrev node : Child
    node = child_of c.open_nodes k

    -- the nodes in its place
    abbrev inner : List Child
    inner = choice.network.children

    -- the nodes after
    abbrev later : List Child
    later = splice k inner c.open_nodes

    -- it is one of the nodes
    here : k < length c.open_nodes
    here = choice_within problem c number choice kinds

    -- what is replaced isn't barred
    node_unbarred : bars r node ≡ false
    node_unbarred = elim kinds [
      | inl d ↦ ap (bars r) d.is_task
      | inr e ↦ performed_unbarred c.state choice.state node first e.performs
    ]

    -- so a barred node is still there after
    barred_stays : list_any (bars r) c.open_nodes ≡ true → list_any (bars r) later ≡ true
    barred_stays barred =
        any_splice (bars r) k inner c.open_nodes
        ∙ follows (list_any (bars r) (take k c.open_nodes)) (bars r node) (list_any (bars r) inner) (list_any (bars r) (drop (suc k) c.open_nodes)) (λ is. absurd (both_ways _ node_unbarred is))
        (sym (any_split (bars r) k c.open_nodes (precondition []) here) ∙ barred)

    -- and so is one that comes in its place
    barred_comes : list_any (bars r) inner ≡ true → list_any (bars r) later ≡ true
    barred_comes barred =
        any_splice (bars r) k inner c.open_nodes
        ∙ or_right (list_any (bars r) (take k c.open_nodes)) _ (or_left (list_any (bars r) inner) (list_any (bars r) (drop (suc k) c.open_nodes)) barred)

    module _ (within : is_within r.facts c.state ≡ true) (unbarred : list_any (bars r) inner ≡ false) where
      -- the nodes of the instance are such as the task says
      passed : (d : Decomposes problem c number choice) → passes r d.name inner ≡ true
      passed d = second (list_any (bars r) inner) (passes r d.name inner) (right.instances d.name number choice.network d.method alive) unbarred

      -- they are known if the replaced one is
      inner_known : r.is_known node ≡ true → list_all r.is_known inner ≡ true
      inner_known known = elim kinds [
        | inl d ↦ implied (r.is_known (task d.name)) (list_all r.is_known inner) (sym (ap r.is_known d.is_task) ∙ known) (and_parts _ _ (passed d)).0
        | inr e ↦ ap (λ (n : Network). list_all r.is_known n.children) e.network
      ]

      -- one of them never ends if the replaced one doesn't
      inner_blocked : r.is_blocked node ≡ true → list_any r.is_blocked inner ≡ true
      inner_blocked blocked = elim kinds [
        | inl d ↦ implied (r.is_blocked (task d.name)) (list_any r.is_blocked inner) (sym (ap r.is_blocked d.is_task) ∙ blocked) (and_parts _ _ (passed d)).1
        | inr e ↦ absurd (both_ways _ (performed_ends c.state choice.state node within e.performs) blocked)
      ]

      -- the state after is within the facts if it is known
      state_within : r.is_known node ≡ true → is_within r.facts choice.state ≡ true
      state_within known = elim kinds [
        | inl d ↦ subst (λ (s : State). is_within r.facts s ≡ true) (sym d.state) within
        | inr e ↦ performed_within c.state choice.state node within known e.performs
      ]

      -- where all nodes are known so are those after, in a state within the facts
      known_after : list_all r.is_known c.open_nodes ≡ true → (is_within r.facts choice.state && list_all r.is_known later) ≡ true
      known_after all =
          let parts = and_parts _ _ (sym (all_split r.is_known k c.open_nodes (precondition []) here) ∙ all) in
          let rest = and_parts _ _ parts.1 in
          and_from _ _ (state_within rest.0) (all_splice r.is_known k inner c.open_nodes ∙ and_from _ _ parts.0 (and_from _ _ (inner_known rest.0) rest.1))

      -- and where one never ends so does one after
      blocked_after : list_any r.is_blocked c.open_nodes ≡ true → list_any r.is_blocked later ≡ true
      blocked_after one =
          any_splice r.is_blocked k inner c.open_nodes
          ∙ follows (list_any r.is_blocked (take k c.open_nodes)) (r.is_blocked node) (list_any r.is_blocked inner) (list_any r.is_blocked (drop (suc k) c.open_nodes)) inner_blocked
          (sym (any_split r.is_blocked k c.open_nodes (precondition []) here) ∙ one)

    -- what may be reached before may be so after
    reached_after : is_reached r c ≡ true → is_reached r (result_of c choice) ≡ true
    reached_after reached = by (or_cases _ _ reached) (cases_Bool (list_any (bars r) inner))
      where
        by : (list_any (bars r) c.open_nodes ≡ true) ⊎ ((is_within r.facts c.state && list_all r.is_known c.open_nodes) ≡ true)
            → (list_any (bars r) inner ≡ true) ⊎ (list_any (bars r) inner ≡ false) → is_reached r (result_of c choice) ≡ true
        by (inl barred) other = or_left _ _ (barred_stays barred)
        by (inr parts) (inl barred) = or_left _ _ (barred_comes barred)
        by (inr parts) (inr unbarred) = let both = and_parts _ _ parts in or_right (list_any (bars r) later) _ (known_after both.0 unbarred both.1)

    module _ (ends : may_end_by r (result_of c choice) ≡ true) where
      -- no node after is barred
      none_after : list_any (bars r) later ≡ false
      none_after = not-true _ (and_parts _ _ ends).0

      -- so none before is
      none_before : list_any (bars r) c.open_nodes ≡ false
      none_before = false_from_ne_true _ (λ barred. both_ways _ none_after (barred_stays barred))

      -- nor one that comes
      none_inside : list_any (bars r) inner ≡ false
      none_inside = false_from_ne_true _ (λ barred. both_ways _ none_after (barred_comes barred))

      -- what is lost before is lost after
      lost_after : (is_within r.facts c.state && (list_all r.is_known c.open_nodes && list_any r.is_blocked c.open_nodes)) ≡ true
          → (is_within r.facts choice.state && (list_all r.is_known later && list_any r.is_blocked later)) ≡ true
      lost_after lost =
          let parts = and_parts _ _ lost in
          let nodes = and_parts _ _ parts.1 in
          let known = and_parts _ _ (known_after parts.0 none_inside nodes.0) in
          and_from _ _ known.0 (and_from _ _ known.1 (blocked_after parts.0 none_inside nodes.1))

      -- so the configuration before may end
      ended : may_end_by r c ≡ true
      ended =
          and_from _ _ (not_from_false _ none_before)
          (not_from_false _ (false_from_ne_true _ (λ lost. both_ways _ (not-true _ (and_parts _ _ ends).1) (lost_after lost))))

  -- ## Configurations

  -- what is done may end
  done : (c : Config) → IsDone problem c → may_end_by r c ≡ true
  done c (none, goal) =
      subst (λ (xs : List Child). may_end_by r (record { state = c.state; open_nodes = xs; order = c.order }) ≡ true) (sym none)
      (not_from_false _ (and_right (is_within r.facts c.state) false refl))

  -- what leads there too
  leading : (word : List ℕ) (c last : Config) → LeadsLive problem word c last → IsDone problem last → is_as_at_first problem c.state ≡ true → may_end_by r c ≡ true
  leading [] c last same finished first = done c (subst (IsDone problem) (sym same) finished)
  leading (number ∷ word) c last (choice, is, live, rest) finished first =
      let next : live_step problem c number ≡ Some (result_of c choice) =
      ap (option_and_then (λ (x : Choice). cond (is_dead problem x.network) None (Some (result_of c x)))) is ∙ ap (λ b. cond b None (Some (result_of c choice))) live in
      let stays = (states_last problem grounded).stays c (result_of c choice) number next first in
      ended c number choice (chosen problem c number choice is) live first (leading word (result_of c choice) last rest finished stays)

-- the law
pub reach_stays : ReachStays
reach_stays problem r grounded right = record {
  step = λ c d number is first ends. (
      let made = live_choice problem c d number is in
      ended problem grounded r right c number made.0 (chosen problem c number made.0 made.1) made.2 first
      (subst (λ x. may_end_by r x ≡ true) (sym made.3) ends));
  done = done problem grounded r right;
  ends = leading problem grounded r right;
}

-- ## What may be reached

-- where no node is barred the others decide
told_by : (barred within known blocked : Bool) → (barred || (within && known)) ≡ true → (not barred && not (within && (known && blocked))) ≡ not (blocked || barred)
told_by true within known false reached = refl
told_by true within known true reached = refl
told_by false true true false reached = refl
told_by false true true true reached = refl
told_by false true false blocked reached = absurd cc
told_by false false known blocked reached = absurd cc

-- the law of what may be reached
pub reached_stays : ReachedStays
reached_stays problem r grounded right = record {
  stays = λ c d number is first reached. (
      let made = live_choice problem c d number is in
      subst (λ x. is_reached r x ≡ true) made.3 (reached_after problem grounded r right c number made.0 (chosen problem c number made.0 made.1) made.2 first reached));
  told = λ c reached.
      told_by (list_any (bars r) c.open_nodes) (is_within r.facts c.state) (list_all r.is_known c.open_nodes) (list_any r.is_blocked c.open_nodes) reached
      ∙ ap not (sym (any_or r.is_blocked (bars r) c.open_nodes));
}
