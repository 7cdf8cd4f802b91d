use Rattle.std.proofs.Common.{◌≡◌, ◌++◌, map, take}
use Rattle.hddl_warnings.proofs.parameters.push_atom_terms.Given as goal

abbrev pub invariant-loop-term : goal.invariant-loop-term
invariant-loop-term l = map (λ x. x.now) l.terms.items ≡ map (λ x. x.now) l.initial.terms.items ++ take l.term-index l.term-items
