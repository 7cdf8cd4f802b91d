use Rattle.std.proofs.Common.{◌≡◌, filter, take, get_or, None}
use Rattle.plan_picture.specs.Order.{is_some}
use Rattle.plan_picture.proofs.order.with_actions.Given as goal

-- those so far
abbrev pub invariant-loop-line : goal.invariant-loop-line
invariant-loop-line l = l.lines.items ≡ filter (λ line. is_some (get_or l.firsts line None)) (take l.line-index l.listed)
