use Rattle.std.proofs.Common.{take}
use Rattle.hddl_meaning.specs.Items.{variable_mentions}
use Rattle.hddl_scope.specs.Repeats.{IsRepeatOfFirst}
use Rattle.hddl_scope.proofs.Repeating.{Listed}
use Rattle.hddl_scope.proofs.in_force.Scope.repeats.Given as goal

abbrev pub invariant-loop-position : goal.invariant-loop-position
invariant-loop-position l =
    Listed (IsRepeatOfFirst (take l.start (variable_mentions l.self))) (take l.position (variable_mentions l.self)) l.places.items
