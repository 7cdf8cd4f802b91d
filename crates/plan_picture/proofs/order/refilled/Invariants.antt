use Rattle.std.proofs.Common.{◌≡◌, ◌≤◌, ◌++◌, length, drop, get_or, None}
use Rattle.plan_picture.specs.Order as spec
use Rattle.plan_picture.proofs.order.refilled.Given as goal

-- those so far, and those to come
abbrev pub invariant-loop-line : goal.invariant-loop-line
invariant-loop-line l = record {
  within : l.next ≤ length l.others;
  whole : l.lines.items ++ spec.refilled (λ line. get_or l.firsts line None) (drop l.line-index l.listed) (drop l.next l.others)
      ≡ spec.refilled (λ line. get_or l.firsts line None) l.listed l.others;
}
