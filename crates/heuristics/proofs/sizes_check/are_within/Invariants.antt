use Rattle.std.proofs.Common.{◌≤◌, All, take}
use Rattle.heuristics.specs.Sizes.{size_at, size_by}
use Rattle.heuristics.proofs.sizes_check.are_within.Given as goal

abbrev pub invariant-loop-decomposition : goal.invariant-loop-decomposition
invariant-loop-decomposition l = All (λ d. size_at l.sizes d.task.index ≤ size_by l.sizes d) (take l.decomposition-index l.decompositions)
