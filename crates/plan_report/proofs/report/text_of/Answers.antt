use Rattle.std.proofs.Common.{◌∙◌, ap}
use Rattle.diagnostics.specs.Verdicts.{text_bytes}
use Rattle.plan_report.specs.Explained.{is_valid}
use Rattle.plan_report.proofs.report.text_of.Goals as goal

pub returns : goal.returns
returns c =
    let colour = c.args.judged.style.colour in
    let words = c.args.judged.words.now in
    let ds = c.args.errors.now in
    let valid = is_valid c.args.judged.verdict in
    let run = c.in_ok-run.run'.items in (
      run,
      c.in_ok-lines.lines.items,
      c.in_ok-run.ensures,
      c.in_ok-lines.ensures,
      c.in_ok-text.ensures
          ∙ ap (λ b. text_bytes colour b words c.as_slice.result.now ds c.as_slice-2.result.now) c.is_valid.ensures
          ∙ ap (λ r. text_bytes colour valid words r ds c.as_slice-2.result.now) c.as_slice.ensures.value
          ∙ ap (λ l. text_bytes colour valid words run ds l) c.as_slice-2.ensures.value,
    )
