use Rattle.std.proofs.Common.{◌≡◌, [], replicate}
use Rattle.hddl_names.specs.Rows.{lists_of}
use Rattle.hddl_names.proofs.members.ObjectsByType.new.Given as goal

abbrev pub invariant-loop-i : goal.invariant-loop-i
invariant-loop-i l = lists_of l.lists.items ≡ replicate l.i []
