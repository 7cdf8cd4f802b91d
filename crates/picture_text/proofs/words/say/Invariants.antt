use Rattle.std.proofs.Common.{◌≡◌, ◌++◌, map, take}
use Rattle.diagnostics.specs.Shown.{shown}
use Rattle.picture_text.proofs.words.say.Given as goal

-- the bytes so far
abbrev pub invariant-loop-byte : goal.invariant-loop-byte
invariant-loop-byte l = l.out.items ≡ l.initial.out.items ++ map shown (take l.byte-index l.words)
