use Rattle.std.proofs.Common.{◌≡◌, ◌&&◌, length, map, take}
use Rattle.std.specs.Prelude.{nat_eq, nat_lt}
use Rattle.std.specs.List.{filter}
use Rattle.htn_ground.specs.Candidates.{moved_atom}
use Rattle.htn_ground.proofs.candidates.moved_atoms.Given as goal

abbrev pub invariant-loop-atom : goal.invariant-loop-atom
invariant-loop-atom l = l.rows.items ≡ map (moved_atom l.place) (filter (λ a. nat_eq a.predicate l.predicate && nat_lt l.place (length a.arguments)) (take l.atom-index l.atom-items))
