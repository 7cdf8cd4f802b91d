use Rattle.std.proofs.Common.{◌≡◌, ◌++◌, take}
use Rattle.diagnostics.specs.Near.{names_of}
use Rattle.pair_messages.specs.Bindings.{variables_in}
use Rattle.pair_messages.proofs.variables.push_variables.Given as goal

abbrev pub invariant-loop-group : goal.invariant-loop-group
invariant-loop-group l = names_of l.names.items ≡ names_of l.initial.names.items ++ variables_in (take l.group-index l.groups)
