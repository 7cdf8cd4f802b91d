use Rattle.std.proofs.Common.{◌≡◌, ◌++◌, map, take}
use Rattle.hddl_meaning.specs.Mentions.{variable_mention}
use Rattle.hddl_scope.proofs.lists.push_variables.Given as goal

abbrev pub invariant-loop-variable : goal.invariant-loop-variable
invariant-loop-variable l = l.mentions.items ≡ l.initial.mentions.items ++ map variable_mention (take l.variable-index l.variables)
