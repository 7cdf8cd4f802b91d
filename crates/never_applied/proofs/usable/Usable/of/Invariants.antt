use Rattle.std.proofs.Common.{All, take}
use Rattle.htn_ground.specs.Distinct.{distinct}
use Rattle.htn_model.specs.Instances.{initials}
use Rattle.never_applied.specs.Fine.{IsStartUsed, IsTaskUsed}
use Rattle.never_applied.proofs.usable.Usable.of.Given as goal

abbrev pub invariant-loop-place : goal.invariant-loop-place
invariant-loop-place l = record {
  starts : All (IsStartUsed l.fine l.usable) (distinct (initials l.task));
  tasks : All (IsTaskUsed l.task l.fine l.usable) (take l.place l.usable.tasks.keys);
}
