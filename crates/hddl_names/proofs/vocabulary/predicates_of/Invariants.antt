use Rattle.std.proofs.Common.{◌≡◌, map, take}
use Rattle.hddl_meaning.specs.Mentions.{folded}
use Rattle.hddl_meaning.specs.Names.{distinct}
use Rattle.hddl_names.proofs.vocabulary.predicates_of.Given as goal

abbrev pub invariant-loop-predicate : goal.invariant-loop-predicate
invariant-loop-predicate l = l.names ≡ distinct (map (λ x. folded x.name.text) (take l.predicate-index l.predicates))
