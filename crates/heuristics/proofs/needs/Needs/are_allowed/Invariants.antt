use Rattle.heuristics.proofs.Within.{AllowedBelow}
use Rattle.heuristics.proofs.needs.Needs.are_allowed.Given as goal

abbrev pub invariant-loop-decomposition : goal.invariant-loop-decomposition
invariant-loop-decomposition l = AllowedBelow l.self l.graph l.decomposition-index
