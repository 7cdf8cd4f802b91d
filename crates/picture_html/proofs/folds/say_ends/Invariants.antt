use Rattle.std.proofs.Common.{◌≡◌, ◌++◌}
use Rattle.picture_html.specs.Outline.{ends}
use Rattle.picture_html.proofs.folds.say_ends.Given as goal

-- the ends so far, and those that are left
abbrev pub invariant-loop-left : goal.invariant-loop-left
invariant-loop-left l = l.out.items ++ ends l.left ≡ l.initial.out.items ++ ends l.count

abbrev pub decreases-loop-left : goal.decreases-loop-left
decreases-loop-left l = l.left
