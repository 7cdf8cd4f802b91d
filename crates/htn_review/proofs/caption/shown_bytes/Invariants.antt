use Rattle.std.proofs.Common.{◌≡◌, map, take}
use Rattle.diagnostics.specs.Shown.{shown}
use Rattle.htn_review.proofs.caption.shown_bytes.Given as goal

-- the bytes so far
abbrev pub invariant-loop-byte : goal.invariant-loop-byte
invariant-loop-byte l = l.bytes.items ≡ map shown (take l.byte-index l.word)
