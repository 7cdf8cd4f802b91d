use Rattle.std.proofs.Common.{◌≡◌, ◌≤◌, ◌∙◌, List, Some, length, ap, slice_get, subst, sym, ℕ}
use Rattle.std.proofs.lemmas.Option.{slice_get-get_or}
use Rattle.htn_model.specs.Problem.{Child}
use Rattle.htn_model.specs.Task.{Task}
use Rattle.state_table.specs.Table.{IsSetOf, Table}
use Rattle.call_table.specs.Lists.{Lists}
use Rattle.call_nodes.specs.Nodes.{AreNodes, IsOperator, children}
use Rattle.call_nodes.specs.declared.operator.Operator.{Operator}
use Rattle.call_nodes.proofs.Leading.{operator_at, operator_leads, past_operators, some_so}
use Rattle.call_nodes.proofs.call_nodes.CallNodes.after.Goals as goal

-- the set of the state
state_is : (c : goal.In_ok-after) → slice_get c.args.self.now.states c.args.state ≡ Some c.in-Some.before.now
state_is c =
    let seen = c.in-Some.ensures.lookup in
    ap (λ (l : List (List ℕ)). slice_get l c.args.state) (sym c.states.ensures.value)
    ∙ slice_get-get_or c.states.result.now c.args.state c.in-Some.before.now seen.3.0 ∙ ap Some (sym seen.1)

-- the operator of the node
operator_is : (c : goal.In_ok-after) → slice_get c.args.self.now.operators.items c.args.node ≡ Some c.in-Some-get.operator.now
operator_is c =
    let found = c.in-Some-get.ensures.lookup in
    ap (λ (l : List Operator). slice_get l c.args.node) (sym c.deref.ensures.value)
    ∙ slice_get-get_or c.deref.result.now c.args.node c.in-Some-get.operator.now found.3.0 ∙ ap Some (sym found.1)

pub returns-in_default-get-clause-state : goal.returns-in_default-get-clause-state
returns-in_default-get-clause-state c = λ t own x at inside.
    absurd (past_operators t c.args.self.now own c.args.node x
    (subst (λ (l : List Operator). length l ≤ c.args.node) c.deref.ensures.value c.in_default-get.ensures.lookup.3) at)

pub returns-clause-state : goal.returns-clause-state
returns-clause-state c = λ t own.
    operator_leads t c.args.self.now own c.args.node c.args.state c.in-Some-get.operator.now c.in-Some.before.now _ (operator_is c) (state_is c)
    (λ x is. c.in_ok-after.ensures.state t c.args.self.now.atoms (children c.args.self.now) c.args.self.now.lists x own.atoms.table is)

pub returns-clause-within : goal.returns-clause-within
returns-clause-within c =
    let n = c.args.self.now in
    let before = c.in-Some.before.now in
    let operator = c.in-Some-get.operator.now in
    some_so
    (λ (s : List ℕ). (t : Task) (atoms : Table) (known : List Child) (l : Lists) (x : Child) → IsOperator t atoms known l x operator → IsSetOf atoms before → IsSetOf atoms s)
    (λ (s : List ℕ). (t : Task) → AreNodes t n → IsSetOf n.atoms s) c.in_ok-after.after
    (λ s from t own.
    (let found = operator_at t n own c.args.node operator (operator_is c) in from t n.atoms (children n) n.lists found.0 found.2 (own.sets c.args.state before (state_is c))))
    c.in_ok-after.ensures.within
