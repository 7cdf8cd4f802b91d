use Rattle.std.proofs.Common.{◌≡◌, drop}
use Rattle.std.specs.List.{list_all}
use Rattle.heuristics.specs.ReachTables.{facts_of}
use Rattle.heuristics.proofs.facts.FactSets.may_all_hold.Given as goal

abbrev pub invariant-loop-atom : goal.invariant-loop-atom
invariant-loop-atom l = list_all (facts_of l.self).may_hold (drop l.atom-index l.atoms) ≡ list_all (facts_of l.self).may_hold l.atoms
