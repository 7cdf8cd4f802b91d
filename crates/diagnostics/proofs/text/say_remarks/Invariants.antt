use Rattle.std.proofs.Common.{◌≡◌, ◌++◌, take}
use Rattle.std.specs.List.{flat_map}
use Rattle.diagnostics.specs.Ink.{written}
use Rattle.diagnostics.specs.Parts.{remark_inks}
use Rattle.diagnostics.proofs.text.say_remarks.Given as goal

-- what is written so far
abbrev pub invariant-loop-remark : goal.invariant-loop-remark
invariant-loop-remark l = l.out.items ≡ l.initial.out.items ++ written l.colour (flat_map remark_inks (take l.remark-index l.remarks))
