use Rattle.std.specs.List.{All}
use Rattle.htn_ground.specs.Candidates.{Excludes}
use Rattle.htn_ground.proofs.candidates.all_candidates.Given as goal

abbrev pub invariant-loop-depth : goal.invariant-loop-depth
invariant-loop-depth l = All (Excludes l.state l.literals) l.all.items
