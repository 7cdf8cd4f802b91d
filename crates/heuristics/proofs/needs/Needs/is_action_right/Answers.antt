use Rattle.std.proofs.Common.{◌≡◌, rules}
use Rattle.htn_model.specs.State.{atoms_of}
use Rattle.htn_task.specs.Literals.{literals_of}
use Rattle.heuristics.proofs.Within.{action_right}
use Rattle.heuristics.proofs.needs.Needs.is_action_right.Goals as goal

pub returns-then-adds : goal.returns-then-adds
returns-then-adds c = λ deletes.
    let a = c.args.action.now in
    let pre : literals_of c.as_slice-2.result.now ≡ a.precondition = search rules in
    let adds_are : c.atoms.result.now ≡ atoms_of a.adds = search rules in
    let deletes_are : c.atoms-2.result.now ≡ atoms_of a.deletes = search rules in
    action_right c.args.self.now a c.args.row.now c.as_slice.result.now c.as_slice-2.result.now c.atoms.result.now c.atoms-2.result.now c.as_slice.ensures.value pre adds_are deletes_are
    (c.are_among.ensures c.if-not-are_among.false) (c.in_ok-adds.ensures c.if-adds.true) (c.in_ok-deletes.ensures deletes)
