use Rattle.std.proofs.Common.{◌≡◌, ◌++◌, map, take}
use Rattle.diagnostics.specs.Near.{names_of}
use Rattle.pair_messages.proofs.variables.push_group.Given as goal

abbrev pub invariant-loop-variable : goal.invariant-loop-variable
invariant-loop-variable l = names_of l.names.items ≡ names_of l.initial.names.items ++ map (λ x. x.text) (take l.variable-index l.variables)
