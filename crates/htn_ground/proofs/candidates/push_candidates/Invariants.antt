use Rattle.std.specs.List.{All}
use Rattle.htn_ground.specs.Candidates.{Excludes}
use Rattle.htn_ground.proofs.candidates.push_candidates.Given as goal

abbrev pub invariant-loop-literal : goal.invariant-loop-literal
invariant-loop-literal l = All (Excludes l.state l.literals) l.all.items
