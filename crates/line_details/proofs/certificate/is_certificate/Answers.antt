use Rattle.std.proofs.Common.{subst}
use Rattle.line_details.specs.Found.{HaveInstances}
use Rattle.line_details.proofs.Certified.{certified}
use Rattle.line_details.proofs.certificate.is_certificate.Goals as goal

pub returns : goal.returns
returns g c = λ yes.
    let l = g.L.PlanLines.lines c.args.lines.now in
    let t = c.args.task.now in
    let entries = c.args.entries.now in
    certified t c.args.file.now l c.args.root.now entries c.requires.lines c.requires.file (c.in_ok-is_initial_instance.ensures c.if-not-branch-2.false)
    (subst (λ ds. HaveInstances t l ds entries) c.decompositions-decompositions.ensures.value (c.in_ok-all.ensures yes)) (c.in_ok-all_have_room.ensures c.if-not-branch.false)
