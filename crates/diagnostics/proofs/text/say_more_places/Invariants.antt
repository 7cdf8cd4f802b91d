use Rattle.std.proofs.Common.{◌≡◌, ◌++◌, take}
use Rattle.std.specs.List.{flat_map}
use Rattle.diagnostics.specs.Ink.{written}
use Rattle.diagnostics.specs.Written.{comma_inks}
use Rattle.diagnostics.proofs.text.say_more_places.Given as goal

-- what is written so far
abbrev pub invariant-loop-place : goal.invariant-loop-place
invariant-loop-place l = l.out.items ≡ l.initial.out.items ++ written l.colour (flat_map comma_inks (take l.place-index l.places))
