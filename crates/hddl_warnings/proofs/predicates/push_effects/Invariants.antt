use Rattle.std.proofs.Common.{◌≡◌, ◌++◌, map, take}
use Rattle.hddl_warnings.proofs.predicates.push_effects.Given as goal

abbrev pub invariant-loop-literal : goal.invariant-loop-literal
invariant-loop-literal l = map (λ x. x.now) l.atoms.items ≡ map (λ x. x.now) l.initial.atoms.items ++ map (λ l. l.atom) (take l.literal-index l.literal-items)
