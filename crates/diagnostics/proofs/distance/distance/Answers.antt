use Rattle.std.proofs.Common.{sym, ◌∙◌}
use Rattle.diagnostics.proofs.Lowered.{chars-lowered}
use Rattle.diagnostics.proofs.distance.distance.Goals as goal

pub returns : goal.returns
returns c =
    let left = chars-lowered c.args.name.now c.as_str.result.now c.type_inv.name (c.as_str.ensures.value ∙ c.in_ok-left.ensures) in
    let right = chars-lowered c.args.other.now c.as_str-2.result.now c.type_inv.other (c.as_str-2.ensures.value ∙ c.in_ok-right.ensures) in
    rw (sym left) (rw (sym right) c.osa_distance.ensures.value)
