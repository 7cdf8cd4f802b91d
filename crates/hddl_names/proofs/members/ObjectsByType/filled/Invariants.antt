use Rattle.hddl_names.specs.Members.{AreFilled, IsFlaggedAbove}
use Rattle.hddl_names.specs.TypeNumbers.{numbered_pairs}
use Rattle.hddl_names.proofs.members.ObjectsByType.filled.Given as goal

abbrev pub invariant-loop-object : goal.invariant-loop-object
invariant-loop-object l =
    AreFilled (numbered_pairs l.types) l.declared l.flags l.count l.object l.all × IsFlaggedAbove (numbered_pairs l.types) l.flags l.row l.above.items
