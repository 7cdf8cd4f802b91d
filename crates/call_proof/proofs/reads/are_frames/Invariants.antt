use Rattle.std.proofs.Common.{◌≡◌, ◌<◌, ℕ, Some, map, slice_get}
use Rattle.htn_model.specs.Grounding.{problem_of}
use Rattle.htn_model.specs.Problem.{Child}
use Rattle.call_rules.specs.Local.{IsFrameOf}
use Rattle.htn_ground.specs.Views.{child_view}
use Rattle.call_proof.specs.Parts.{frame_at, masks_of}
use Rattle.call_proof.proofs.reads.are_frames.Given as goal

abbrev pub invariant-loop-k : goal.invariant-loop-k
invariant-loop-k l =
    (j : ℕ) (x : Child) → j < l.k → slice_get (map child_view l.all) j ≡ Some x
    → IsFrameOf (problem_of l.task) x (frame_at l.nodes (masks_of l.frames) j)
