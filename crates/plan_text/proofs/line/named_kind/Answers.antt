use Rattle.std.proofs.Common.{◌≡◌, sym, ◌∙◌}
use Rattle.plan_text.proofs.FoundKind.{named_cut}
use Rattle.plan_text.proofs.line.named_kind.Goals as goal

pub returns-in-Some : goal.returns-in-Some
returns-in-Some c = c.decomposition_kind.ensures ∙ sym (named_cut _ _ _ _ c.name-item.is c.in-len1-up.len_at_least c.if-is_arrow.ensures c.in-Some.ensures)
