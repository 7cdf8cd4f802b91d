use Rattle.std.proofs.Common.{◌∙◌, arith}
use Rattle.htn_task.proofs.Compared.{ended}
use Rattle.htn_task.proofs.atom.compare_arguments.Goals as goal

pub returns : goal.returns
returns c =
    let inv = c.loop-i.invariant in
    let m = inv.0 in
    let p = inv.1 in
    let q = c.loop-i-test.false in
    ended c.args.a.now c.args.b.now c.loop-i.i c.cmp.result (omega arith) c.cmp.ensures ∙ inv.2
