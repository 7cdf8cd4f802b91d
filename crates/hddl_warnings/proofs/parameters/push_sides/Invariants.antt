use Rattle.std.proofs.Common.{◌≡◌, ◌++◌, map, take}
use Rattle.hddl_warnings.proofs.parameters.push_sides.Given as goal

abbrev pub invariant-loop-side : goal.invariant-loop-side
invariant-loop-side l = map (λ x. x.now) l.terms.items ≡ map (λ x. x.now) l.initial.terms.items ++ map (λ x. x.now) (take l.side-index l.sides)
