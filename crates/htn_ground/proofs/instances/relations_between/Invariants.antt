use Rattle.std.proofs.Common.{◌≡◌, take}
use Rattle.htn_ground.specs.Search.{all_relations}
use Rattle.htn_ground.proofs.instances.relations_between.Given as goal

abbrev pub invariant-loop-equality : goal.invariant-loop-equality
invariant-loop-equality l = l.relations.items ≡ all_relations (take l.equality-index l.equalities)
