-- Words that a diagnostic points at.
use Rattle.std.specs.Prelude.{◌≡◌, ℕ, List, [], ◌∷◌, length, drop, min, max}
use Rattle.std.specs.List.{prefix_len}
use Rattle.hddl_words.specs.Word.{is_word_byte}
use Rattle.diagnostics.specs.declared.diagnostic.Source.{Source}
use Rattle.diagnostics.specs.declared.diagnostic.Spot.{Spot}

-- how many bytes the word at the front has: those of a run of word bytes, and 1 where another byte stands there
abbrev pub word_len_at : List ℕ → ℕ
word_len_at [] = 0
word_len_at (b ∷ bytes) = max 1 (prefix_len is_word_byte (b ∷ bytes))

-- the spot is the word at a place of a text, or the end where the text is shorter
pub record IsAt (text : Source) (start : ℕ) (spot : Spot) : Type 0 where
  pub source : spot.source.now ≡ text
  pub place : spot.place ≡ min start (length text.lines)
  pub word_len : spot.word_len ≡ word_len_at (drop start text.lines)
