use Rattle.std.proofs.Common.{◌∙◌, ap}
use Rattle.diagnostics.specs.Verdicts.{short_bytes}
use Rattle.plan_report.proofs.report.short_of.Goals as goal

pub returns : goal.returns
returns c = (
  c.in_ok-run.run'.items,
  c.in_ok-run.ensures,
  c.in_ok-text.ensures ∙ ap (λ r. short_bytes c.args.judged.words.now r c.args.errors.now) c.as_slice.ensures.value,
)
