use Rattle.std.proofs.Common.{◌∙◌, ap, [], ◌∷◌, ◌++◌}
use Rattle.check_report.proofs.tell.text_errors.Goals as goal

pub returns : goal.returns
returns c = (
  c.in_ok-error.error,
  c.in_ok-error.ensures,
  c.in_ok-push.ensures.items ∙ ap (λ xs. xs ++ c.in_ok-error.error ∷ []) c.new-errors.ensures.items,
)
