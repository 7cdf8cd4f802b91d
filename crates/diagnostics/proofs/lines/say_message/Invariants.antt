use Rattle.std.proofs.Common.{◌≡◌, ◌++◌, take}
use Rattle.std.specs.List.{flat_map}
use Rattle.diagnostics.specs.Ink.{written}
use Rattle.diagnostics.specs.Parts.{part_inks}
use Rattle.diagnostics.proofs.lines.say_message.Given as goal

-- what is written so far
abbrev pub invariant-loop-part : goal.invariant-loop-part
invariant-loop-part l = l.out.items ≡ l.initial.out.items ++ written l.colour (flat_map part_inks (take l.part-index l.message))
