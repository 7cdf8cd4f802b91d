-- The words of a text that the grammar takes for names are names.
use Rattle.std.proofs.Common.{◌≡◌, ℕ, nat_lt, zero, suc, ◌+◌, ◌-◌, Bool, true, false, cond, eqb, List, [], ◌∷◌, length, Option, Some, None, Result, Ok, Err, sym, refl, ap, subst}
use Rattle.std.specs.List.{AllByRecursion, prefix_len}
use Rattle.hddl_words.specs.declared.token.Kind.{Kind}
use Rattle.hddl_words.specs.declared.token.Kind.TheVariants as kind
use Rattle.hddl_words.specs.declared.class.Class.TheVariants as class
use Rattle.hddl_words.specs.declared.fault.TextFault.{TextFault}
use Rattle.hddl_words.specs.declared.fault.TextFault.TheVariants.{NotAscii, TooLong}
use Rattle.hddl_words.specs.Class.{class_of}
use Rattle.hddl_words.specs.Names.{is_name}
use Rattle.hddl_words.specs.Words.{Word, word, max_bytes, is_blank, is_word_byte, is_comment_byte, kind_of, kinded, word_at, before, and_then, words_from, words}
use Rattle.hddl_words.proofs.Tokens.{name_self, word_self}
use Rattle.std.specs.List.{take_while}

-- it is a name where the grammar takes it for one
abbrev pub IsOwn : Word → Type 0
IsOwn w = class_of w ≡ class.Name → is_name w.text ≡ true

-- each of the words is one of the text's own
abbrev pub AllOwn : List Word → Type 0
AllOwn ws = AllByRecursion IsOwn ws

-- ## A word's place

-- a word of some kind stands at its place
kinded_place : (place : ℕ) (text : List ℕ) (o : Option Kind) (w : Word) → kinded place text o ≡ Ok w → w.place ≡ place
kinded_place place text (Some k) w e = let at : w.place ≡ place = cc in at
kinded_place place text None w e = absurd cc

-- the same by the tests of its first byte
place_by : (o c r : Bool) (place b : ℕ) (run : List ℕ) (w : Word)
    → cond o (Ok (word kind.Open place (b ∷ []))) (cond c (Ok (word kind.Close place (b ∷ []))) (cond r (kinded place run (kind_of b (length run))) (Err (NotAscii place)))) ≡ Ok w
    → w.place ≡ place
place_by true c r place b run w e = let is : w ≡ word kind.Open place (b ∷ []) = cc in ap (λ (v : Word). v.place) is
place_by false true r place b run w e = let is : w ≡ word kind.Close place (b ∷ []) = cc in ap (λ (v : Word). v.place) is
place_by false false true place b run w e = kinded_place place run (kind_of b (length run)) w e
place_by false false false place b run w e = absurd cc

-- a word stands where it was looked for
word_place : (place : ℕ) (bytes : List ℕ) (w : Word) → word_at place bytes ≡ Ok w → w.place ≡ place
word_place place [] w e = absurd cc
word_place place (b ∷ bytes) w e = place_by (eqb b 40) (eqb b 41) (is_word_byte b) place b (take_while is_word_byte (b ∷ bytes)) w e

-- the word at the front of bytes is one of its own
word_own : (place : ℕ) (bytes : List ℕ) (w : Word) → word_at place bytes ≡ Ok w → IsOwn w
word_own place bytes w e = name_self w (subst (λ k. word_at k w.text ≡ Ok w) (sym (word_place place bytes w e)) (word_self place bytes w e))

-- ## The words of a text

-- a word before own words
front_own : (w : Word) (r : Result (List Word) TextFault) (ws : List Word) → IsOwn w → ((more : List Word) → r ≡ Ok more → AllOwn more)
    → before (w ∷ []) r ≡ Ok ws → AllOwn ws
front_own w (Ok more) ws own later e = let is : w ∷ more ≡ ws = cc in subst AllOwn is (own, later more refl)
front_own w (Err fault) ws own later e = absurd cc

-- a word, and the words after it
word_front : (r : Result Word TextFault) (more : Word → Result (List Word) TextFault) (ws : List Word) → ((w : Word) → r ≡ Ok w → IsOwn w)
    → ((w : Word) (rest : List Word) → more w ≡ Ok rest → AllOwn rest) → and_then r more ≡ Ok ws → AllOwn ws
word_front (Ok w) more ws own later e = front_own w (more w) ws (own w refl) (later w) e
word_front (Err fault) more ws own later e = absurd cc

-- the words from a place on
own_from : (bytes : List ℕ) (left place : ℕ) (ws : List Word) → words_from left place bytes ≡ Ok ws → AllOwn ws
own_from [] left place ws e = let none : [] ≡ ws = cc in subst AllOwn none tt
own_from (b ∷ bytes) (suc left) place ws e = own_from bytes left (place + 1) ws e
own_from (b ∷ bytes) zero place ws e = by (is_blank b) (eqb b 59) e (λ left more. own_from bytes left (place + 1) more)
  where
    by : (p q : Bool)
        → cond p (words_from 0 (place + 1) bytes) (cond q (words_from (prefix_len is_comment_byte bytes) (place + 1) bytes)
        (and_then (word_at place (b ∷ bytes)) (λ w. words_from (length w.text - 1) (place + 1) bytes))) ≡ Ok ws
        → ((left : ℕ) (more : List Word) → words_from left (place + 1) bytes ≡ Ok more → AllOwn more) → AllOwn ws
    by true q e more = more 0 ws e
    by false true e more = more (prefix_len is_comment_byte bytes) ws e
    by false false e more =
        word_front (word_at place (b ∷ bytes)) (λ w. words_from (length w.text - 1) (place + 1) bytes) ws (word_own place (b ∷ bytes))
        (λ w rest. more (length w.text - 1) rest) e

-- so are all words of a text
pub words_own : (text : List ℕ) (ws : List Word) → words text ≡ Ok ws → AllOwn ws
words_own text ws e = by (nat_lt max_bytes (length text)) e
  where
    by : (long : Bool) → cond long (Err (TooLong max_bytes)) (words_from 0 0 text) ≡ Ok ws → AllOwn ws
    by true e = absurd cc
    by false e = own_from text 0 0 ws e
