use Rattle.std.proofs.Common.{◌≡◌, ◌++◌, take}
use Rattle.hddl_names.specs.TypeNumbers.{pairs_in, object_pairs_in}
use Rattle.hddl_names.proofs.pairs.all_pairs.Given as goal

abbrev pub invariant-loop-group : goal.invariant-loop-group
invariant-loop-group l = l.pairs.items ≡ pairs_in l.names (take l.group-index l.groups)

abbrev pub invariant-loop-group-2 : goal.invariant-loop-group-2
invariant-loop-group-2 l = l.pairs.items ≡ l.initial.pairs.items ++ object_pairs_in l.names (take l.group-index l.groups)
