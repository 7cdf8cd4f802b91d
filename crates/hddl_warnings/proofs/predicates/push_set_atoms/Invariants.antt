use Rattle.std.proofs.Common.{◌≡◌, ◌++◌, map, take}
use Rattle.std.specs.List.{flat_map}
use Rattle.hddl_warnings.proofs.predicates.push_set_atoms.Given as goal

abbrev pub invariant-loop-action : goal.invariant-loop-action
invariant-loop-action l = map (λ x. x.now) l.atoms.items ≡ map (λ x. x.now) l.initial.atoms.items ++ flat_map (λ a. map (λ l. l.atom) a.effect) (take l.action-index l.action-items)

abbrev pub invariant-loop-atom : goal.invariant-loop-atom
invariant-loop-atom l = map (λ x. x.now) l.atoms.items ≡ map (λ x. x.now) l.initial.atoms.items ++ take l.atom-index l.atom-items
