use Rattle.std.proofs.Common.{◌≡◌, take}
use Rattle.hddl_meaning.specs.Mentions.{folded}
use Rattle.hddl_names.proofs.text.fold_into.Given as goal

abbrev pub invariant-loop-byte : goal.invariant-loop-byte
invariant-loop-byte l = l.buffer.items ≡ folded (take l.byte-index l.bytes)
