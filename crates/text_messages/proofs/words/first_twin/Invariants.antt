use Rattle.std.proofs.Common.{◌≤◌, drop, length, map}
use Rattle.hddl_words.specs.Faults.{Leads}
use Rattle.hddl_words.specs.Words.{word_of}
use Rattle.text_messages.specs.Notes.{HasTwins}
use Rattle.text_messages.proofs.words.first_twin.Given as goal

-- what is found of the words from the index on
abbrev pub invariant-loop-index : goal.invariant-loop-index
invariant-loop-index l = record {
  below : l.index ≤ length l.words;
  leads : Leads l.depth (drop l.index (map word_of l.words)) 0;
  twins : HasTwins (map word_of l.words) l.text l.index l.found;
}

abbrev pub decreases-loop-index : goal.decreases-loop-index
decreases-loop-index l = l.index
