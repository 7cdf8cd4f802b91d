use Rattle.std.proofs.Common.{◌≡◌, ◌∙◌, List, arith, length, subst, sym}
use Rattle.plan_findings.proofs.Running.{AreSoFar, change_in_run, changes_more, no_changes_yet}
use Rattle.plan_causes.specs.declared.run.Change.{Change}
use Rattle.plan_findings.proofs.run.changes_of.Goals as goal

pub loop-gap-init : goal.loop-gap-init
loop-gap-init c =
    subst (λ (l : List Change). AreSoFar c.args.task.now c.args.tasks.now 0 l) (sym c.new-changes.ensures.items) (no_changes_yet c.args.task.now c.args.tasks.now)

pub loop-gap-preserved : goal.loop-gap-preserved
loop-gap-preserved c =
    let t = c.args.task.now in
    let tasks = c.args.tasks.now in
    let n = c.loop-gap.gap in
    changes_more t tasks n c.loop-gap.changes.items _ c.in_ok-change.change c.loop-gap.invariant
    (change_in_run t tasks c.args.turns.now n c.index-tasks-gap.result c.in_ok-change.change c.requires c.loop-gap-test.true c.index-tasks-gap.is c.in_ok-change.ensures)
    c.in_ok-push.ensures.items

pub returns : goal.returns
returns c =
    let whole : c.loop-gap.gap ≡ length c.args.tasks.now = omega arith in
    record { as_many = c.loop-gap.invariant.as_many ∙ whole; each = c.loop-gap.invariant.each }
