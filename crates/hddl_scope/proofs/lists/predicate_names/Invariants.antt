use Rattle.std.proofs.Common.{◌≡◌, map, take}
use Rattle.hddl_meaning.specs.Mentions.{mention_of}
use Rattle.hddl_scope.proofs.lists.predicate_names.Given as goal

abbrev pub invariant-loop-predicate : goal.invariant-loop-predicate
invariant-loop-predicate l = l.mentions.items ≡ map (λ x. mention_of x.name) (take l.predicate-index l.predicates)
