use Rattle.std.proofs.Common.{◌≡◌, ◌++◌, take}
use Rattle.picture_html.specs.Why.{clean_lines}
use Rattle.picture_html.proofs.why.say_lines.Given as goal

-- the bytes so far
abbrev pub invariant-loop-byte : goal.invariant-loop-byte
invariant-loop-byte l = l.out.items ≡ l.initial.out.items ++ clean_lines (take l.byte-index l.lines)
