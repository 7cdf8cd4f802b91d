use Rattle.std.proofs.Common.{◌≡◌, ◌++◌, take}
use Rattle.std.specs.List.{flat_map}
use Rattle.hddl_meaning.specs.Networks.{labelled, pair_of}
use Rattle.hddl_build.proofs.network.written_pairs.Given as goal

abbrev pub invariant-loop-ordering : goal.invariant-loop-ordering
invariant-loop-ordering l =
    l.pairs.items
    ≡ l.initial.pairs.items ++ flat_map (λ o. pair_of (labelled l.network o.before) (labelled l.network o.after)) (take l.ordering-index l.ordering-items)
