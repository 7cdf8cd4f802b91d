use Rattle.std.proofs.Common.{◌≡◌, ◌∙◌, Bool, false, true, subst, sym}
use Rattle.plan_report.specs.Explained.{AreRunLines, has_run}
use Rattle.plan_report.proofs.report.states.Goals as goal

pub returns-then-not-has_run : goal.returns-then-not-has_run
returns-then-not-has_run c =
    let none : false ≡ has_run c.args.verdict c.args.style = sym c.if-not-has_run.true ∙ c.has_run.ensures in
    subst (λ (b : Bool). AreRunLines c.args.task.now c.args.file.now b c.new.result.items) none c.new.ensures.items

pub returns : goal.returns
returns c =
    let some : true ≡ has_run c.args.verdict c.args.style = sym c.if-not-has_run.false ∙ c.has_run.ensures in
    subst (λ (b : Bool). AreRunLines c.args.task.now c.args.file.now b c.in_ok-lines.lines.items) some (c.in_ok-found.found, c.in_ok-found.ensures, c.in_ok-lines.ensures)
