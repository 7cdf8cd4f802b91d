use Rattle.std.proofs.Common.{◌≡◌, drop}
use Rattle.std.specs.List.{list_all}
use Rattle.htn_model.specs.State.{contains}
use Rattle.heuristics.proofs.facts.has_all.Given as goal

abbrev pub invariant-loop-atom : goal.invariant-loop-atom
invariant-loop-atom l = list_all (contains l.state) (drop l.atom-index l.atoms) ≡ list_all (contains l.state) l.atoms
