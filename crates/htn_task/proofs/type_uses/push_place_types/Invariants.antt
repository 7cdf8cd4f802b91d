use Rattle.std.proofs.Common.{◌≡◌, ◌++◌, take}
use Rattle.std.specs.List.{flat_map}
use Rattle.htn_task.proofs.type_uses.push_place_types.Given as goal

abbrev pub invariant-loop-declaration : goal.invariant-loop-declaration
invariant-loop-declaration l = l.found.items ≡ l.initial.found.items ++ flat_map (λ d. d.types) (take l.declaration-index l.declarations)
