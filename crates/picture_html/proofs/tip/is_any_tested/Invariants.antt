use Rattle.std.proofs.Common.{◌≡◌, drop}
use Rattle.std.specs.List.{list_any}
use Rattle.picture_html.specs.Tip.{is_tested}
use Rattle.picture_html.proofs.tip.is_any_tested.Given as goal

-- those that are left decide
abbrev pub invariant-loop-detail : goal.invariant-loop-detail
invariant-loop-detail l = list_any is_tested (drop l.detail-index l.details) ≡ list_any is_tested l.details
