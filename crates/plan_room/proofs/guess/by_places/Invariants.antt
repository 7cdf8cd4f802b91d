use Rattle.std.proofs.Common.{◌≡◌, map, take}
use Rattle.plan_room.proofs.guess.by_places.Given as goal

abbrev pub invariant-loop-child : goal.invariant-loop-child
invariant-loop-child l = map (λ p. p.1) l.keyed.items ≡ take l.child l.children

abbrev pub invariant-loop-pair : goal.invariant-loop-pair
invariant-loop-pair l = l.list.items ≡ map (λ p. p.1) (take l.pair-index l.pair-items)
