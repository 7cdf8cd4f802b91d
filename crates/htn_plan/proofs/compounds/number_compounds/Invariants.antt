use Rattle.std.proofs.Common.{◌≡◌, length}
use Rattle.htn_plan.specs.Gathered.{by_instance, gather_all, nothing}
use Rattle.htn_plan.specs.Items.{items_of}
use Rattle.htn_plan.proofs.compounds.number_compounds.Given as goal

abbrev pub invariant-loop-item : goal.invariant-loop-item
invariant-loop-item l = gather_all l.task (by_instance l.task) l.end (items_of l.items.items) l.gathered ≡ gather_all l.task (by_instance l.task) l.end (items_of l.fn.items.items) nothing

abbrev pub decreases-loop-item : goal.decreases-loop-item
decreases-loop-item l = length l.items.items
