use Rattle.std.proofs.Common.{take}
use Rattle.hddl_meaning.specs.Mentions.{typed_names}
use Rattle.hddl_uses.specs.Known.{AllTyped}
use Rattle.hddl_check.proofs.objects.are_typed.Given as goal

abbrev pub invariant-loop-group : goal.invariant-loop-group
invariant-loop-group l = AllTyped l.types (typed_names (take l.group-index l.groups))
