use Rattle.std.proofs.Common.{◌∙◌, ap, [], ◌∷◌, ◌++◌}
use Rattle.check_report.specs.Report.{counts_in}
use Rattle.check_report.proofs.summary.problem_lines.Goals as goal

pub returns : goal.returns
returns c =
    ap counts_in (c.in_ok-push.ensures.items ∙ ap (λ xs. xs ++ c.in_ok-line.line ∷ []) c.new-lines.ensures.items)
    ∙ ap (λ n. n ∷ []) c.in_ok-line.ensures
