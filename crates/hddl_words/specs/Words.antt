-- The words of a text, with their places.
use Rattle.std.specs.Prelude.{◌≡◌, ◌≢◌, ℕ, zero, suc, ◌+◌, ◌-◌, ◌==◌, nat_lt, if◌then◌else◌, List, [], ◌∷◌, ◌++◌, length, map, Result, Ok, Err}
use Rattle.std.specs.List.{prefix_len}
use Rattle.std.specs.declared.alloc.Global.{Global}
use Rattle.std.specs.declared.vec.Vec.{Vec}
use Rattle.hddl_words.specs.declared.fault.TextFault.{TextFault}
use Rattle.hddl_words.specs.declared.fault.TextFault.TheVariants.{TooLong, OutOfMemory}
use Rattle.hddl_words.specs.declared.token.Token.{Token}
pub use Rattle.hddl_words.specs.Word.{Word, word, is_blank, is_printable, is_word_byte, is_comment_byte, kind_of, kinded, word_at}

-- 16 MiB, the most bytes that a text may have
abbrev pub max_bytes : ℕ
max_bytes = 16777216

-- words in front of those that follow, unless there is a fault
abbrev pub before : List Word → Result (List Word) TextFault → Result (List Word) TextFault
before front (Ok ws) = Ok (front ++ ws)
before front (Err fault) = Err fault

-- a word in front of those that follow, unless there is a fault
abbrev pub and_then : Result Word TextFault → (Word → Result (List Word) TextFault) → Result (List Word) TextFault
and_then (Ok w) more = before (w ∷ []) (more w)
and_then (Err fault) more = Err fault

-- The words of the bytes from a place on, or the first fault. The number counts the bytes to be skipped: those that are
-- left of the last word or comment that was met.
abbrev pub words_from : ℕ → ℕ → List ℕ → Result (List Word) TextFault
words_from left place [] = Ok []
words_from (suc left) place (b ∷ bytes) = words_from left (place + 1) bytes
words_from zero place (b ∷ bytes) =
    if is_blank b then words_from 0 (place + 1) bytes
    else (if b == 59 then words_from (prefix_len is_comment_byte bytes) (place + 1) bytes
    else and_then (word_at place (b ∷ bytes)) (λ w. words_from (length w.text - 1) (place + 1) bytes))

-- the words of a text, or its first fault; that it is too long comes before all others
abbrev pub words : List ℕ → Result (List Word) TextFault
words text = if nat_lt max_bytes (length text) then Err (TooLong max_bytes) else words_from 0 0 text

-- the word that a token stands for
abbrev pub word_of : Token → Word
word_of token = word token.kind token.place token.text.now

-- the tokens are the words, or the fault is that of the text, unless memory ran out
abbrev pub Lexes : Result (Vec Token Global) TextFault → Result (List Word) TextFault → Type 0
Lexes (Ok tokens) found = found ≡ Ok (map word_of tokens.items)
Lexes (Err fault) found = fault ≢ OutOfMemory → found ≡ Err fault
