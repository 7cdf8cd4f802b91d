use Rattle.std.proofs.Common.{◌≡◌, map, take}
use Rattle.hddl_meaning.specs.Building.{predicate_of}
use Rattle.hddl_build.proofs.schema.predicates_of.Given as goal

abbrev pub invariant-loop-predicate : goal.invariant-loop-predicate
invariant-loop-predicate l = l.found.items ≡ map (predicate_of l.vocabulary) (take l.predicate-index l.predicates)
