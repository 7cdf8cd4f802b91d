use Rattle.std.proofs.Common.{◌≡◌, ◌++◌, take}
use Rattle.htn_task.specs.Views.{terms_of}
use Rattle.htn_ground.specs.Places.{pinned}
use Rattle.htn_ground.proofs.conditions.push_pinned.Given as goal

abbrev pub invariant-loop-place : goal.invariant-loop-place
invariant-loop-place l = l.equalities.items ≡ l.initial.equalities.items ++ pinned (terms_of (take l.place l.terms)) l.objects
