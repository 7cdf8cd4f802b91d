use Rattle.std.proofs.Common.{◌≡◌, take, map}
use Rattle.std.specs.List.{flat_map}
use Rattle.std.specs.Fmt.{decimal}
use Rattle.std.specs.Io.KnownBytes.{Appends}
use Rattle.plan_text.specs.Written.{spaced}
use Rattle.plan_text.proofs.writer.put_numbers.Given as goal

abbrev pub invariant-loop-number : goal.invariant-loop-number
invariant-loop-number g l = record {
  taken : Appends (g.O.Out.contents l.initial.out) (g.O.Out.contents l.out) (flat_map spaced (map decimal (take l.number-index l.numbers)));
  works : g.O.Out.has_failed l.out ≡ g.O.Out.has_failed l.initial.out;
}
