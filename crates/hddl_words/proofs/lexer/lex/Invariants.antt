use Rattle.std.proofs.Common.{length, ◌-◌, ◌≡◌, map, drop}
use Rattle.hddl_words.specs.Words.{words_from, word_of, before}
use Rattle.hddl_words.proofs.lexer.lex.Given as goal

-- the words so far, before those that are left, are those of the text
abbrev pub invariant-loop-place : goal.invariant-loop-place
invariant-loop-place l = before (map word_of l.tokens.items) (words_from 0 l.place (drop l.place l.text)) ≡ words_from 0 0 l.text

abbrev pub decreases-loop-place : goal.decreases-loop-place
decreases-loop-place l = length l.text - l.place
