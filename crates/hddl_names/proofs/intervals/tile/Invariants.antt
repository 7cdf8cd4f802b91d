use Rattle.std.proofs.Common.{◌↔◌, drop}
use Rattle.hddl_names.specs.Intervals.{Tile}
use Rattle.hddl_names.proofs.intervals.tile.Given as goal

abbrev pub invariant-loop-number : goal.invariant-loop-number
invariant-loop-number l = Tile l.intervals l.numbers l.from l.to ↔ Tile l.intervals (drop l.number-index l.numbers) l.end l.to
