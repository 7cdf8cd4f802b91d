use Rattle.std.proofs.Common.{◌≡◌, ◌∙◌, Some, ap, slice_get, sym, List, arith, length}
use Rattle.std.proofs.lemmas.Option.{slice_get_past}
use Rattle.std.proofs.lemmas.Slice.Zip.{AllZip-long}
use Rattle.htn_model.specs.Problem.{Child}
use Rattle.htn_model.specs.Task.{Task}
use Rattle.call_nodes.specs.Nodes.{AreNodes, IsOperator, children}
use Rattle.call_nodes.specs.declared.operator.Operator.{Operator}
use Rattle.call_nodes.proofs.Leading.{lent, not_lent, operator_at}
use Rattle.call_nodes.proofs.call_nodes.CallNodes.operator.Goals as goal

pub returns-clause-some : goal.returns-clause-some
returns-clause-some c =
    let n = c.args.self.now in
    let node = c.args.node in
    lent (λ (o : Operator). (t : Task) → AreNodes t n → (x : Child) × (slice_get (children n) node ≡ Some x) × IsOperator t n.atoms (children n) n.lists x o)
    c.deref.result.now node c.get.result c.get.ensures.lookup
    (λ o at t own. operator_at t n own node o (ap (λ l. slice_get l node) (sym c.deref.ensures.value) ∙ at))

pub returns-clause-none : goal.returns-clause-none
returns-clause-none c =
    let n = c.args.self.now in
    not_lent c.deref.result.now c.args.node c.get.result c.get.ensures.lookup
    (λ past t own.
    let long = AllZip-long (IsOperator t n.atoms (children n) n.lists) (children n) n.operators.items own.operators in
    let same = ap (λ (l : List Operator). length l) c.deref.ensures.value in
    slice_get_past (children n) c.args.node (omega (arith, past, long, same)))
