use Rattle.std.proofs.Common.{◌≡◌, take}
use Rattle.std.specs.List.{flat_map}
use Rattle.hddl_uses.specs.Labels.{pairs_of}
use Rattle.hddl_uses.proofs.labels.pairs_in.Given as goal

abbrev pub invariant-loop-ordering : goal.invariant-loop-ordering
invariant-loop-ordering l = l.pairs.items ≡ flat_map (pairs_of l.numbers) (take l.ordering-index l.orderings)
