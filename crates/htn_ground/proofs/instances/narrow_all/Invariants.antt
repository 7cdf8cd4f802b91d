use Rattle.std.proofs.Common.{◌≡◌, take}
use Rattle.std.specs.List.{All}
use Rattle.std.specs.List.Sorted.{IsStrictlySortedBy}
use Rattle.std.specs.Ordering.{nat_cmp}
use Rattle.htn_model.specs.Instances.{domains_of}
use Rattle.htn_ground.specs.Search.{narrowed, singles_of}
use Rattle.htn_ground.proofs.instances.narrow_all.Given as goal

abbrev pub invariant-loop-at : goal.invariant-loop-at
invariant-loop-at l =
    (l.lists.items ≡ narrowed (singles_of l.task l.conditions) 0 (domains_of l.task (take l.at l.type_number-items)))
    × All (IsStrictlySortedBy nat_cmp) l.lists.items
