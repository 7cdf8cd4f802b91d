use Rattle.std.proofs.Common.{◌≡◌, ◌-◌, map, take}
use Rattle.htn_plan.proofs.preorder.place_of.Given as goal

abbrev pub invariant-loop-frame : goal.invariant-loop-frame
invariant-loop-frame l = l.place.items ≡ map (λ f. f.taken - 1) (take l.frame-index l.frames)
