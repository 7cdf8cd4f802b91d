use Rattle.std.proofs.Common.{◌≡◌, ◌++◌, map, take}
use Rattle.std.specs.List.{flat_map}
use Rattle.hddl_warnings.proofs.parameters.push_terms.Given as goal

abbrev pub invariant-loop-atom : goal.invariant-loop-atom
invariant-loop-atom l = map (λ x. x.now) l.terms.items ≡ map (λ x. x.now) l.initial.terms.items ++ flat_map (λ a. a.terms) (map (λ x. x.now) (take l.atom-index l.atoms))
