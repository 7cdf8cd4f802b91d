-- States and nodes are told apart by their numbers, and each state is as at first in what no effect names.
use Rattle.std.proofs.Common.{◌≡◌, ◌∙◌, ◌<◌, ℕ, [], true, false, Some, length, get_or, slice_get, ap, sym}
use Rattle.std.proofs.lemmas.Option.{slice_get-get_or}
use Rattle.htn_model.specs.Atom.{Atom}
use Rattle.htn_model.specs.Grounding.{problem_of}
use Rattle.htn_model.specs.Problem.{Child, IsGrounded}
use Rattle.htn_model.specs.State.{State, contains}
use Rattle.htn_model.specs.Task.{Task}
use Rattle.state_table.specs.Table.{is_fluent}
use Rattle.state_table.proofs.Keys.{one_place}
use Rattle.state_table.proofs.States.{static_is, told_apart}
use Rattle.heuristics.specs.Measure.{is_as_at_first}
use Rattle.heuristics.proofs.SizesBounded.{states_last}
use Rattle.call_nodes.specs.Nodes.{AreNodes, children, state_at}
use Rattle.call_nodes.specs.declared.call_nodes.CallNodes.{CallNodes}

module _ (t : Task) (n : CallNodes) (own : AreNodes t n) where
  -- no state has two numbers
  pub states_told : (i j : ℕ) → i < length n.states → j < length n.states → state_at n i ≡ state_at n j → i ≡ j
  states_told i j first second alike =
      let v = get_or n.states i [] in
      let w = get_or n.states j [] in
      let at_i = slice_get-get_or n.states i [] first in
      let at_j = slice_get-get_or n.states j [] second in
      let same = told_apart n.atoms own.atoms.table v w (own.sets i v at_i) (own.sets j w at_j) alike in
      one_place n.states own.states_apart i j v at_i (at_j ∙ ap Some (sym same))

  -- and no node has
  pub nodes_told : (i j : ℕ) (x : Child) → slice_get (children n) i ≡ Some x → slice_get (children n) j ≡ Some x → i ≡ j
  nodes_told i j x first second = one_place (children n) own.nodes_apart i j x first second

  -- what no effect names is in each state as at first
  pub states_last_at : (i : ℕ) → IsGrounded (problem_of t) → is_as_at_first (problem_of t) (state_at n i) ≡ true
  states_last_at i grounded = ((states_last (problem_of t) grounded).told (state_at n i)).1 static
    where
      static : (a : Atom) → (problem_of t).is_changed a.predicate ≡ false → contains (state_at n i) a ≡ contains t.initial_atoms a
      static a still =
          let is : is_fluent n.atoms a ≡ false = own.atoms.fluents a.predicate ∙ still in
          static_is n.atoms own.atoms.table (get_or n.states i []) a is
          ∙ sym (static_is n.atoms own.atoms.table (get_or n.states 0 []) a is)
          ∙ ap (λ (s : State). contains s a) own.start
