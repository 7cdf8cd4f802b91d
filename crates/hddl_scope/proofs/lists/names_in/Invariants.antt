use Rattle.std.proofs.Common.{◌≡◌, take}
use Rattle.hddl_meaning.specs.Mentions.{mentions_of, typed_names}
use Rattle.hddl_scope.proofs.lists.names_in.Given as goal

abbrev pub invariant-loop-group : goal.invariant-loop-group
invariant-loop-group l = l.mentions.items ≡ mentions_of (typed_names (take l.group-index l.groups))
