use Rattle.std.proofs.Common.{◌≡◌, ◌++◌, length}
use Rattle.plan_text.specs.Piece.{words}
use Rattle.plan_text.specs.Seen.{seen, seen_all}
use Rattle.plan_text.proofs.cut.words_of.Given as goal

-- the words that were found, before those that are left, are those of the line
abbrev pub invariant-loop-word : goal.invariant-loop-word
invariant-loop-word l = seen_all l.found.items ++ l.words ≡ words (seen l.line)

abbrev pub decreases-loop-word : goal.decreases-loop-word
decreases-loop-word l = length l.words
