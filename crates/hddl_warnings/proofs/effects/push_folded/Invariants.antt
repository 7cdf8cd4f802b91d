use Rattle.std.proofs.Common.{◌≡◌, ◌++◌, take}
use Rattle.hddl_meaning.specs.Mentions.{folded}
use Rattle.hddl_warnings.proofs.effects.push_folded.Given as goal

abbrev pub invariant-loop-byte : goal.invariant-loop-byte
invariant-loop-byte l = l.text.items ≡ l.initial.text.items ++ folded (take l.byte-index l.bytes)
