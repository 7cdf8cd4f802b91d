use Rattle.std.proofs.Common.{◌≡◌, false, get_or, take}
use Rattle.std.specs.List.{filter}
use Rattle.hddl_names.proofs.members.flagged.Given as goal

abbrev pub invariant-loop-number : goal.invariant-loop-number
invariant-loop-number l = l.found.items ≡ filter (λ n. get_or l.flags n false) (take l.number-index l.numbers)
