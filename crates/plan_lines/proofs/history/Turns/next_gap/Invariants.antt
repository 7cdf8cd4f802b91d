use Rattle.std.proofs.Common.{◌≡◌, ◌≤◌, ◌<◌, ◌-◌, ℕ, false}
use Rattle.htn_task.specs.Literals.{literals_of}
use Rattle.plan_lines.specs.Turns.{literals_truth}
use Rattle.plan_lines.proofs.history.Turns.next_gap.Given as goal

abbrev pub invariant-loop-next : goal.invariant-loop-next
invariant-loop-next l = record {
  low : l.from ≤ l.gap;
  within : l.gap ≤ l.last;
  skipped : (k : ℕ) → l.from ≤ k → k < l.gap → literals_truth l.self (literals_of l.literals) k ≡ false;
}

abbrev pub decreases-loop-next : goal.decreases-loop-next
decreases-loop-next l = l.last - l.gap
