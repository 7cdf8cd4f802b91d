use Rattle.std.proofs.Common.{◌≡◌, take}
use Rattle.hddl_meaning.specs.Mentions.{mentions_of, typed_variables}
use Rattle.hddl_scope.proofs.lists.variables_in.Given as goal

abbrev pub invariant-loop-group : goal.invariant-loop-group
invariant-loop-group l = l.mentions.items ≡ mentions_of (typed_variables (take l.group-index l.groups))
