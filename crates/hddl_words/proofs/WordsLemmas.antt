-- The words from a place on, by what stands there.
use Rattle.std.proofs.Common.{◌≡◌, ℕ, zero, suc, ◌+◌, ◌-◌, ◌<◌, ◌≤◌, true, false, eqb, eqb-true, ltb, List, [], ◌∷◌, ◌++◌, length, get_or, drop, Ok, Err, Result, refl, sym, ap, ◌∙◌, arith, add-one, one-add, add-zero, append_assoc, append-nil, drop-cons}
use Rattle.std.proofs.lemmas.Bool.Decides.{nat_tests}
use Rattle.std.specs.List.{prefix_len}
use Rattle.std.proofs.lemmas.List.{drop_all, drop-drop}
use Rattle.hddl_words.specs.declared.fault.TextFault.{TextFault}
use Rattle.hddl_words.specs.Words.{Word, is_blank, is_comment_byte, word_at, before, and_then, words_from, words, max_bytes}

-- passing over what is left of a word or a comment
pub words_from-left : (n place : ℕ) (bytes : List ℕ) → words_from n place bytes ≡ words_from 0 (place + n) (drop n bytes)
words_from-left zero place bytes = ap (λ p. words_from 0 p bytes) (sym (add-zero place))
words_from-left (suc n) place [] = refl
words_from-left (suc n) place (b ∷ bytes) =
    let same : (place + 1) + n ≡ place + suc n = omega arith in
    words_from-left n (place + 1) bytes ∙ ap (λ p. words_from 0 p (drop n bytes)) same

-- from a place on stand its byte and what follows
pub drop_front : (text : List ℕ) (place : ℕ) → place < length text → drop place text ≡ get_or text place 0 ∷ drop (place + 1) text
drop_front text place h = rw (add-one, drop-cons text place 0)

-- at the end there are no words
pub words_from-end : (text : List ℕ) (place : ℕ) → length text ≤ place → words_from 0 place (drop place text) ≡ Ok []
words_from-end text place h = ap (words_from 0 place) (drop_all place text h)

-- the same where n bytes from the front are passed over, of which the first stands
skipped : (n place b : ℕ) (bytes : List ℕ) → words_from n (place + 1) bytes ≡ words_from 0 (place + suc n) (drop (suc n) (b ∷ bytes))
skipped n place b bytes = words_from-left (suc n) place (b ∷ bytes)

-- from a semicolon on the words are those after the comment
comment_front : (place b : ℕ) (bytes : List ℕ) → is_blank b ≡ false → eqb b 59 ≡ true → words_from 0 place (b ∷ bytes) ≡ words_from 0 (place + prefix_len is_comment_byte (b ∷ bytes)) (drop (prefix_len is_comment_byte (b ∷ bytes)) (b ∷ bytes))
comment_front place b bytes other comment =
    let semicolon : b ≡ 59 = eqb-true b 59 comment in
    let len : prefix_len is_comment_byte (b ∷ bytes) ≡ suc (prefix_len is_comment_byte bytes) = rw (semicolon, one-add) in
    rw (len, other, comment) (skipped (prefix_len is_comment_byte bytes) place b bytes)

-- from a word on the words are it and those after it
word_front : (w : Word) (place b : ℕ) (bytes : List ℕ) → is_blank b ≡ false → eqb b 59 ≡ false → word_at place (b ∷ bytes) ≡ Ok w → 0 < length w.text → words_from 0 place (b ∷ bytes) ≡ before (w ∷ []) (words_from 0 (place + length w.text) (drop (length w.text) (b ∷ bytes)))
word_front w place b bytes other no_comment found some =
    let len : length w.text ≡ suc (length w.text - 1) = omega arith in
    let more = skipped (length w.text - 1) place b bytes in
    let here : words_from 0 place (b ∷ bytes) ≡ and_then (word_at place (b ∷ bytes)) (λ w. words_from (length w.text - 1) (place + 1) bytes) = rw (other, no_comment) in
    here ∙ ap (λ r. and_then r (λ w. words_from (length w.text - 1) (place + 1) bytes)) found ∙ ap (before (w ∷ [])) (rw (← len) at more)

module _ (text : List ℕ) (place : ℕ) (inside : place < length text) where
  -- from a blank on the words are those after it
  pub words_from-blank : is_blank (get_or text place 0) ≡ true → words_from 0 place (drop place text) ≡ words_from 0 (place + 1) (drop (place + 1) text)
  words_from-blank blank = rw (drop_front text place inside, blank)

  -- the same of a comment at a place
  pub words_from-comment : is_blank (get_or text place 0) ≡ false → eqb (get_or text place 0) 59 ≡ true → words_from 0 place (drop place text) ≡ words_from 0 (place + prefix_len is_comment_byte (drop place text)) (drop (place + prefix_len is_comment_byte (drop place text)) text)
  words_from-comment other comment =
      rw (← drop-drop (prefix_len is_comment_byte (drop place text)) place text, drop_front text place inside) (comment_front place (get_or text place 0) (drop (place + 1) text) other comment)

  -- the same of a word at a place
  pub words_from-word : (w : Word) → is_blank (get_or text place 0) ≡ false → eqb (get_or text place 0) 59 ≡ false → word_at place (drop place text) ≡ Ok w → 0 < length w.text → words_from 0 place (drop place text) ≡ before (w ∷ []) (words_from 0 (place + length w.text) (drop (place + length w.text) text))
  words_from-word w other no_comment found some =
      rw (← drop-drop (length w.text) place text, drop_front text place inside) (word_front w place (get_or text place 0) (drop (place + 1) text) other no_comment (rw (drop_front text place inside) at found) some)

  -- where no word can be read, its fault is that of the text
  pub words_from-fault : (fault : TextFault) → is_blank (get_or text place 0) ≡ false → eqb (get_or text place 0) 59 ≡ false → word_at place (drop place text) ≡ Err fault → words_from 0 place (drop place text) ≡ Err fault
  words_from-fault fault other no_comment found =
      let e = rw (drop_front text place inside) at found in
      let here : words_from 0 place (drop place text) ≡ and_then (word_at place (get_or text place 0 ∷ drop (place + 1) text)) (λ w. words_from (length w.text - 1) (place + 1) (drop (place + 1) text)) = rw (drop_front text place inside, other, no_comment) in
      here ∙ ap (λ r. and_then r (λ w. words_from (length w.text - 1) (place + 1) (drop (place + 1) text))) e

-- words with one more before what follows
pub before-push : (front : List Word) (w : Word) (r : Result (List Word) TextFault) → before (front ++ w ∷ []) r ≡ before front (before (w ∷ []) r)
before-push front w (Ok ws) = ap Ok (append_assoc front (w ∷ []) ws)
before-push front w (Err e) = refl

-- ---- a whole text

-- a text that isn't too long has the words from its start on
pub words_short : (text : List ℕ) → length text ≤ max_bytes → words text ≡ words_from 0 0 text
words_short text short =
    let fits : ltb max_bytes (length text) ≡ false = grind (arith, nat_tests) in
    rw fits refl

-- at the end all words were read
pub words_at_end : (text : List ℕ) (place : ℕ) (front : List Word) → length text ≤ max_bytes → before front (words_from 0 place (drop place text)) ≡ words_from 0 0 text → length text ≤ place → words text ≡ Ok front
words_at_end text place front short so_far over = words_short text short ∙ sym so_far ∙ ap (before front) (words_from-end text place over) ∙ ap Ok (append-nil front)

-- at a fault the text has it
pub words_at_fault : (text : List ℕ) (place : ℕ) (front : List Word) (fault : TextFault) → length text ≤ max_bytes → before front (words_from 0 place (drop place text)) ≡ words_from 0 0 text → place < length text → is_blank (get_or text place 0) ≡ false → eqb (get_or text place 0) 59 ≡ false → word_at place (drop place text) ≡ Err fault → words text ≡ Err fault
words_at_fault text place front fault short so_far inside other no_comment found =
    words_short text short ∙ sym so_far ∙ ap (before front) (words_from-fault text place inside fault other no_comment found)
