use Rattle.std.proofs.Common.{◌≡◌, drop}
use Rattle.htn_task.specs.Literals.{literals_of}
use Rattle.heuristics.specs.Facts.{are_possible}
use Rattle.heuristics.specs.ReachTables.{facts_of}
use Rattle.heuristics.proofs.facts.FactSets.are_possible.Given as goal

abbrev pub invariant-loop-literal : goal.invariant-loop-literal
invariant-loop-literal l =
    are_possible (facts_of l.self) (literals_of (drop l.literal-index l.literals)) ≡ are_possible (facts_of l.self) (literals_of l.literals)
