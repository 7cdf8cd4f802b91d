use Rattle.std.proofs.Common.{◌≡◌, ◌-◌, length}
use Rattle.plan_text.specs.Forest.{lists_of}
use Rattle.plan_text.proofs.Reaching.{IsWalk}
use Rattle.plan_text.proofs.walk.reaches_all.Given as goal

abbrev pub invariant-loop-next : goal.invariant-loop-next
invariant-loop-next l = record {
  walk : IsWalk l.actions l.roots (lists_of l.children) l.met.items l.lines.items l.next;
  size : length l.met.items ≡ l.count;
}

abbrev pub decreases-loop-next : goal.decreases-loop-next
decreases-loop-next l = l.count - l.next
