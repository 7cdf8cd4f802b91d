use Rattle.std.proofs.Common.{◌≡◌, ◌++◌, ◌∷◌, [], map, take}
use Rattle.htn_ground.proofs.literals.push_longer.Given as goal

abbrev pub invariant-loop-object : goal.invariant-loop-object
invariant-loop-object l = l.found.items ≡ l.initial.found.items ++ map (λ o. l.choice ++ o ∷ []) (take l.object-index l.objects)
