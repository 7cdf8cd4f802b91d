use Rattle.std.proofs.Common.{◌∙◌, All, subst}
use Rattle.never_applied.specs.Fine.{IsInstanceUsed}
use Rattle.never_applied.proofs.Listed.{live_holds}
use Rattle.never_applied.proofs.usable.Usable.add_task.Goals as goal

pub returns-clause-there : goal.returns-clause-there
returns-clause-there c =
    let new = c.add_instances.new.self in
    live_holds c.args.task.now c.args.goal.now (IsInstanceUsed c.args.fine.now new)
    (subst (All (λ p. IsInstanceUsed c.args.fine.now new p.1)) (c.deref.ensures.value ∙ c.in_ok-instances.ensures) c.in_ok-add_instances.ensures.there)
