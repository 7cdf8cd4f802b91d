use Rattle.std.proofs.Common.{◌≡◌, take}
use Rattle.hddl_build.proofs.objects.names_of.Given as goal

abbrev pub invariant-loop-number : goal.invariant-loop-number
invariant-loop-number l = l.found.items ≡ take l.number l.names
