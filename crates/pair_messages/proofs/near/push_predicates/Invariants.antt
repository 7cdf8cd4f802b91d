use Rattle.std.proofs.Common.{◌≡◌, ◌++◌, map, take}
use Rattle.diagnostics.specs.Near.{names_of}
use Rattle.pair_messages.proofs.near.push_predicates.Given as goal

-- those so far
abbrev pub invariant-loop-predicate : goal.invariant-loop-predicate
invariant-loop-predicate l = names_of l.names.items ≡ names_of l.initial.names.items ++ map (λ x. x.name.text) (take l.predicate-index l.predicates)
