use Rattle.std.proofs.Common.{◌∙◌, ap, [], ◌∷◌, ◌++◌}
use Rattle.std.proofs.lemmas.List.{map-append}
use Rattle.pair_messages.specs.Counts.{numbers_of}
use Rattle.check_report.specs.Report.{counts_in}
use Rattle.check_report.proofs.summary.pair_lines.Goals as goal

pub returns : goal.returns
returns c =
    ap counts_in c.in_ok-push.ensures.items ∙ map-append (λ line. numbers_of line.items) c.in_ok-lines.lines.items (c.in_ok-line.line ∷ [])
    ∙ (λ i. c.in_ok-lines.ensures i ++ c.in_ok-line.ensures i ∷ [])
