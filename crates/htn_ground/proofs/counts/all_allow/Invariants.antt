use Rattle.std.proofs.Common.{◌≡◌, drop}
use Rattle.htn_ground.specs.Search.{relation_singles}
use Rattle.htn_ground.proofs.counts.all_allow.Given as goal

abbrev pub invariant-loop-relation : goal.invariant-loop-relation
invariant-loop-relation l = relation_singles (drop l.relation-index l.relations) l.values l.place l.object ≡ relation_singles l.relations l.values l.place l.object
