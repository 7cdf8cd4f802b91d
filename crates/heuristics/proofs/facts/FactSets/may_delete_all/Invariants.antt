use Rattle.std.proofs.Common.{◌≡◌, ◌||◌, drop}
use Rattle.std.specs.List.{list_all}
use Rattle.htn_model.specs.State.{contains}
use Rattle.heuristics.specs.Facts.{may_fail}
use Rattle.heuristics.specs.ReachTables.{facts_of}
use Rattle.heuristics.proofs.facts.FactSets.may_delete_all.Given as goal

abbrev pub invariant-loop-atom : goal.invariant-loop-atom
invariant-loop-atom l =
    list_all (λ x. may_fail (facts_of l.self) x || contains l.action.adds x) (drop l.atom-index l.atoms)
    ≡ list_all (λ x. may_fail (facts_of l.self) x || contains l.action.adds x) l.atoms
