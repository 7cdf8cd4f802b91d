use Rattle.std.proofs.Common.{ℕ, ◌<◌, suc, [], get_or}
use Rattle.hddl_names.specs.Intervals.{Tile, start_of, end_of}
use Rattle.hddl_names.proofs.intervals.are_tiled.Given as goal

abbrev pub invariant-loop-number : goal.invariant-loop-number
invariant-loop-number l =
    (number : ℕ) → 0 < number → number < l.number → Tile l.intervals (get_or l.children number []) (suc (start_of l.intervals number)) (end_of l.intervals number)
