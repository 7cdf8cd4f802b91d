use Rattle.std.proofs.Common.{◌≡◌}
use Rattle.std.specs.List.{enumerate_from}
use Rattle.htn_net.proofs.choices.numbered.Given as goal

abbrev pub invariant-loop-instance : goal.invariant-loop-instance
invariant-loop-instance l = l.found.items ≡ enumerate_from 0 l.yielded
