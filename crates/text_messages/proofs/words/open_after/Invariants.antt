use Rattle.std.proofs.Common.{map, take}
use Rattle.hddl_words.specs.Faults.{Leads}
use Rattle.hddl_words.specs.Words.{word_of}
use Rattle.text_messages.proofs.words.open_after.Given as goal

-- those so far
abbrev pub invariant-loop-word : goal.invariant-loop-word
invariant-loop-word l = Leads 0 (take l.word-index (map word_of l.words)) l.depth
