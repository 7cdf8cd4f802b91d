use Rattle.std.proofs.Common.{◌≡◌, ◌++◌, take}
use Rattle.picture_html.specs.Label.{clean}
use Rattle.picture_html.proofs.escape.say_clean.Given as goal

-- the bytes so far
abbrev pub invariant-loop-byte : goal.invariant-loop-byte
invariant-loop-byte l = l.out.items ≡ l.initial.out.items ++ clean (take l.byte-index l.words)
