-- The words that are read are those that stand in the text, the first fault stands where it says, and none before it.
use Rattle.std.proofs.Common.{◌≡◌, ◌≢◌, ℕ, zero, suc, ◌+◌, ◌-◌, ◌<◌, ◌≤◌, ◌||◌, Bool, true, false, not, cond, eqb, eqb-true, ltb, List, [], ◌∷◌, ◌++◌, length, inl, inr, Option, Some, None, Result, Ok, Err, refl, sym, ap, ◌∙◌, arith, append_assoc, append-nil, length-append}
use Rattle.std.proofs.lemmas.Bool.Decides.{nat_tests}
use Rattle.std.proofs.lemmas.List.Folds.{length-prefix_len}
use Rattle.std.specs.List.{prefix_len, take_while}
use Rattle.hddl_words.specs.declared.fault.TextFault.{TextFault}
use Rattle.hddl_words.specs.declared.fault.TextFault.TheVariants.{NotAscii, BadWord, Unclosed, ExtraClose, TooDeep, Expected, Unsupported, TooLong, OutOfMemory}
use Rattle.hddl_words.specs.declared.token.Kind.{Kind}
use Rattle.hddl_words.specs.declared.token.Kind.TheVariants as kind
use Rattle.hddl_words.specs.Words.{Word, word, is_blank, is_printable, is_word_byte, is_comment_byte, kind_of, kinded, word_at, before, and_then, words_from, words, max_bytes}
use Rattle.hddl_words.proofs.Tokens.{front_by}
use Rattle.hddl_words.specs.Standing.{is_in_comment, IsOutsideComments, IsBetweenWords, IsBracket, Begins, AreWords, end, begins, passes}
use Rattle.hddl_words.specs.Faults.{IsNotAscii, IsBadWord, WordFaultAt, place_of, HasNoWordFault, IsLeftmost}

-- ---- bytes

-- a byte of a word is no line feed
word_byte_no_feed : (b : ℕ) → is_word_byte b ≡ true → eqb b 10 ≡ false
word_byte_no_feed b is = grind (arith, nat_tests, is)

-- a byte of a word begins no comment
word_byte_no_comment : (b : ℕ) → is_word_byte b ≡ true → eqb b 59 ≡ false
word_byte_no_comment b is = grind (arith, nat_tests, is)

-- a byte of a word is printable
word_byte_printable : (b : ℕ) → is_word_byte b ≡ true → is_printable b ≡ true
word_byte_printable b is = grind (arith, nat_tests, is)

-- a blank is no byte of a word
blank_no_word : (b : ℕ) → is_blank b ≡ true → is_word_byte b ≡ false
blank_no_word b is = grind (arith, nat_tests, is)

-- a blank begins no comment
blank_no_comment : (b : ℕ) → is_blank b ≡ true → eqb b 59 ≡ false
blank_no_comment b is = grind (arith, nat_tests, is)

-- a byte that is no bracket, begins no comment and is none of a word isn't printable
no_word_byte : (b : ℕ) → eqb b 40 ≡ false → eqb b 41 ≡ false → eqb b 59 ≡ false → is_word_byte b ≡ false → is_printable b ≡ false
no_word_byte b no_open no_close no_comment is = grind (arith, nat_tests, no_open, no_close, no_comment, is)

-- whether a comment goes on after one byte more
in_comment_push : (inside : Bool) (front : List ℕ) (b : ℕ) → is_in_comment inside (front ++ b ∷ []) ≡ cond (eqb b 10) false (is_in_comment inside front || eqb b 59)
in_comment_push inside [] b = refl
in_comment_push inside (x ∷ front) b = in_comment_push (cond (eqb x 10) false (inside || eqb x 59)) front b

-- a run of some length begins with a byte that passes
first_of_run : (t : Bool) (n k : ℕ) → suc n ≡ cond t (1 + k) 0 → (t ≡ true) × (n ≡ k)
first_of_run true n k e = (refl, omega (arith, e))
first_of_run false n k e = absurd (omega (arith, e))

-- a run of no length ends at once
end_of_run : (t : Bool) (k : ℕ) → 0 ≡ cond t (1 + k) 0 → t ≡ false
end_of_run true k e = absurd (omega (arith, e))
end_of_run false k e = refl

-- ---- where the reader is

-- the last byte is one of a word
abbrev EndsInWord : List ℕ → Type 0
EndsInWord front = (before : List ℕ) × (b : ℕ) × (front ≡ before ++ b ∷ []) × (is_word_byte b ≡ true)

-- after these bytes, with this many of the next to pass over
data Mode : ℕ → List ℕ → List ℕ → Type 0 where
  between : {front bytes : List ℕ} → IsOutsideComments front → IsBetweenWords front → Mode 0 front bytes
  in_word : {n : ℕ} {front bytes : List ℕ} → IsOutsideComments front → EndsInWord front → n ≡ prefix_len is_word_byte bytes → Mode n front bytes
  in_comment : {n : ℕ} {front bytes : List ℕ} → is_in_comment false front ≡ true → n ≡ prefix_len is_comment_byte bytes → Mode n front bytes

-- a fault at a byte, between the bytes before it and those after it
abbrev FaultHere : TextFault → List ℕ → ℕ → List ℕ → Type 0
FaultHere (NotAscii place) front b rest = (place ≡ length front) × IsNotAscii front b rest
FaultHere (BadWord place) front b rest = (place ≡ length front) × IsBadWord front b rest
FaultHere _ front b rest = ⊥

-- the result for one byte: a fault, a word that begins here, or neither
data Turn (n : ℕ) (front : List ℕ) (b : ℕ) (bytes : List ℕ) : Type 0 where
  stops : (fault : TextFault) → words_from n (length front) (b ∷ bytes) ≡ Err fault → FaultHere fault front b bytes → Turn n front b bytes
  gives : (m : ℕ) (w : Word) → Begins front b bytes w → Mode m (front ++ b ∷ []) bytes → words_from n (length front) (b ∷ bytes) ≡ before (w ∷ []) (words_from m (length front + 1) bytes) → ((fault : TextFault) → FaultHere fault front b bytes → ⊥) → Turn n front b bytes
  passes_by : (m : ℕ) → ((w : Word) → Begins front b bytes w → ⊥) → Mode m (front ++ b ∷ []) bytes → words_from n (length front) (b ∷ bytes) ≡ words_from m (length front + 1) bytes → ((fault : TextFault) → FaultHere fault front b bytes → ⊥) → Turn n front b bytes

-- with what holds, either holds
or_true : (b : Bool) → (b || true) ≡ true
or_true true = refl
or_true false = refl

-- equal lists have equal last values
last_same : (xs ys : List ℕ) (x y : ℕ) → xs ++ x ∷ [] ≡ ys ++ y ∷ [] → x ≡ y
last_same [] [] x y e = cc
last_same [] (z ∷ []) x y e = absurd cc
last_same [] (z ∷ v ∷ ys) x y e = absurd cc
last_same (z ∷ []) [] x y e = absurd cc
last_same (z ∷ v ∷ xs) [] x y e = absurd cc
last_same (z ∷ xs) (v ∷ ys) x y e = last_same xs ys x y (let tail : xs ++ x ∷ [] ≡ ys ++ y ∷ [] = cc in tail)

-- a byte that no word holds stands between words
between_after : (front : List ℕ) (b : ℕ) → is_word_byte b ≡ false → IsBetweenWords (front ++ b ∷ [])
between_after front b is before c e = let same = last_same front before b c e in rw (← same) is

-- a byte that neither ends nor begins a comment changes nothing
push_other : (front : List ℕ) (b : ℕ) (inside : Bool) → is_in_comment false front ≡ inside → eqb b 10 ≡ false → eqb b 59 ≡ false → is_in_comment false (front ++ b ∷ []) ≡ inside
push_other front b true is no_feed no_comment = in_comment_push false front b ∙ rw (no_feed, is) refl
push_other front b false is no_feed no_comment = in_comment_push false front b ∙ rw (no_feed, is, no_comment) refl

-- after a line feed no comment goes on
push_feed : (front : List ℕ) (b : ℕ) → eqb b 10 ≡ true → is_in_comment false (front ++ b ∷ []) ≡ false
push_feed front b feed = in_comment_push false front b ∙ rw feed refl

-- after a blank outside comments none begins
push_blank : (front : List ℕ) (b : ℕ) (feed : Bool) → eqb b 10 ≡ feed → IsOutsideComments front → is_blank b ≡ true → IsOutsideComments (front ++ b ∷ [])
push_blank front b true is outside blank = push_feed front b is
push_blank front b false is outside blank = push_other front b false outside is (blank_no_comment b blank)

-- after a semicolon a comment goes on
push_comment : (front : List ℕ) (b : ℕ) → eqb b 59 ≡ true → is_in_comment false (front ++ b ∷ []) ≡ true
push_comment front b comment =
    let no_feed : eqb b 10 ≡ false = grind (arith, nat_tests, comment) in
    in_comment_push false front b ∙ rw (no_feed, comment) (or_true (is_in_comment false front))

-- ---- bytes with no fault

-- in a comment no fault stands
in_comment_free : (front : List ℕ) (b : ℕ) (rest : List ℕ) → is_in_comment false front ≡ true → (fault : TextFault) → FaultHere fault front b rest → ⊥
in_comment_free front b rest inside (NotAscii place) h = let outside = h.1.0 in cc
in_comment_free front b rest inside (BadWord place) h = let outside = h.1.0 in cc
in_comment_free front b rest inside _ h = h

-- inside a word no fault stands
in_word_free : (front : List ℕ) (b : ℕ) (rest : List ℕ) → EndsInWord front → is_word_byte b ≡ true → (fault : TextFault) → FaultHere fault front b rest → ⊥
in_word_free front b rest ends is (NotAscii place) h =
    let printable = word_byte_printable b is in
    let no = h.1.2 in
    cc
in_word_free front b rest (before, c, whole, last) is (BadWord place) h = let no = h.1.1 before c whole in cc
in_word_free front b rest ends is _ h = h

-- at a blank no fault stands
blank_free : (front : List ℕ) (b : ℕ) (rest : List ℕ) → is_blank b ≡ true → (fault : TextFault) → FaultHere fault front b rest → ⊥
blank_free front b rest blank (NotAscii place) h = let no = h.1.1 in cc
blank_free front b rest blank (BadWord place) h =
    let no = blank_no_word b blank in
    let is = h.1.2 in
    cc
blank_free front b rest blank _ h = h

-- at a printable byte that is none of a word no fault stands
mark_free : (front : List ℕ) (b : ℕ) (rest : List ℕ) → is_printable b ≡ true → is_word_byte b ≡ false → (fault : TextFault) → FaultHere fault front b rest → ⊥
mark_free front b rest printable no_word (NotAscii place) h = let no = h.1.2 in cc
mark_free front b rest printable no_word (BadWord place) h = let is = h.1.2 in cc
mark_free front b rest printable no_word _ h = h

-- where a word of some kind begins no fault stands
word_free : (front : List ℕ) (b : ℕ) (rest : List ℕ) (k : Kind) → is_word_byte b ≡ true → kind_of b (length (take_while is_word_byte (b ∷ rest))) ≡ Some k → (fault : TextFault) → FaultHere fault front b rest → ⊥
word_free front b rest k is found (NotAscii place) h =
    let printable = word_byte_printable b is in
    let no = h.1.2 in
    cc
word_free front b rest k is found (BadWord place) h = let no = h.1.3 in cc
word_free front b rest k is found _ h = h

-- a bracket or a semicolon is printable and no byte of a word
mark_printable : (b n : ℕ) → eqb b n ≡ true → is_printable n ≡ true → is_word_byte n ≡ false → (is_printable b ≡ true) × (is_word_byte b ≡ false)
mark_printable b n is printable no_word = let same : b ≡ n = eqb-true b n is in rw same (printable, no_word)

-- ---- bytes with which no word begins

-- in a comment no word begins
in_comment_none : (front : List ℕ) (b : ℕ) (rest : List ℕ) → is_in_comment false front ≡ true → (w : Word) → Begins front b rest w → ⊥
in_comment_none front b rest inside w h = let outside = h.0 in cc

-- a bracket is no byte of a word
bracket_no_word : (b : ℕ) (w : Word) → IsBracket b w → is_word_byte b ≡ false
bracket_no_word b w (inl h, text) = rw h.0 refl
bracket_no_word b w (inr h, text) = rw h.0 refl

-- inside a word none begins
in_word_none : (front : List ℕ) (b : ℕ) (rest : List ℕ) → EndsInWord front → is_word_byte b ≡ true → (w : Word) → Begins front b rest w → ⊥
in_word_none front b rest ends is w (outside, here, inl bracket) = let no = bracket_no_word b w bracket in cc
in_word_none front b rest (start, c, whole, last) is w (outside, here, inr run) = let no = run.0 start c whole in cc

-- at a byte that is no bracket and none of a word no word begins
other_none : (front : List ℕ) (b : ℕ) (rest : List ℕ) → is_word_byte b ≡ false → (b ≡ 40 → ⊥) → (b ≡ 41 → ⊥) → (w : Word) → Begins front b rest w → ⊥
other_none front b rest no_word no_open no_close w (outside, here, inl (inl h, text)) = no_open h.0
other_none front b rest no_word no_open no_close w (outside, here, inl (inr h, text)) = no_close h.0
other_none front b rest no_word no_open no_close w (outside, here, inr run) = let is = run.1 in cc

-- at a blank no word begins
blank_none : (front : List ℕ) (b : ℕ) (rest : List ℕ) → is_blank b ≡ true → (w : Word) → Begins front b rest w → ⊥
blank_none front b rest blank = other_none front b rest (blank_no_word b blank) (λ e. let no : is_blank 40 ≡ true = rw e at blank in cc) (λ e. let no : is_blank 41 ≡ true = rw e at blank in cc)

-- at a semicolon no word begins
comment_none : (front : List ℕ) (b : ℕ) (rest : List ℕ) → eqb b 59 ≡ true → (w : Word) → Begins front b rest w → ⊥
comment_none front b rest is =
    let same : b ≡ 59 = eqb-true b 59 is in
    other_none front b rest (rw same refl) (λ e. omega (arith, same, e)) (λ e. omega (arith, same, e))

-- ---- one byte

module _ (front : List ℕ) (b : ℕ) (bytes : List ℕ) (outside : IsOutsideComments front) (start : is_word_byte b ≡ true → IsBetweenWords front) where
  -- the run of word bytes at the front
  abbrev run : List ℕ
  run = take_while is_word_byte (b ∷ bytes)

  -- the words after one
  abbrev rest_of : Word → Result (List Word) TextFault
  rest_of w = words_from (length w.text - 1) (length front + 1) bytes

  -- where neither a blank nor a comment stands, a word is read and then the rest
  at_word : is_blank b ≡ false → eqb b 59 ≡ false → words_from 0 (length front) (b ∷ bytes) ≡ and_then (word_at (length front) (b ∷ bytes)) rest_of
  at_word no_blank no_comment = rw (no_blank, no_comment) refl

  -- which word stands at the front, by whether its byte is one of a word
  front_is : (is : Bool) → eqb b 40 ≡ false → eqb b 41 ≡ false → is_word_byte b ≡ is → word_at (length front) (b ∷ bytes) ≡ front_by false false is (length front) b run
  front_is is no_open no_close e =
      ap (λ o. front_by o (eqb b 41) (is_word_byte b) (length front) b run) no_open ∙ ap (λ c. front_by false c (is_word_byte b) (length front) b run) no_close ∙ ap (λ r. front_by false false r (length front) b run) e

  -- at a run of word bytes one turn reads a word or has its fault
  word_turn : (o : Option Kind) → is_blank b ≡ false → eqb b 59 ≡ false → eqb b 40 ≡ false → eqb b 41 ≡ false → is_word_byte b ≡ true → kind_of b (length run) ≡ o → Turn 0 front b bytes
  word_turn None no_blank no_comment no_open no_close is none =
      let kinds : kinded (length front) run (kind_of b (length run)) ≡ Err (BadWord (length front)) = ap (kinded (length front) run) none in
      stops (BadWord (length front)) (at_word no_blank no_comment ∙ ap (λ r. and_then r rest_of) (front_is true no_open no_close is ∙ kinds)) (refl, (outside, start is, is, none))
  word_turn (Some k) no_blank no_comment no_open no_close is found =
      let len : length run ≡ prefix_len is_word_byte (b ∷ bytes) = length-prefix_len is_word_byte (b ∷ bytes) in
      let one : prefix_len is_word_byte (b ∷ bytes) ≡ 1 + prefix_len is_word_byte bytes = rw is refl in
      let left : length run - 1 ≡ prefix_len is_word_byte bytes = omega (arith, len, one) in
      let kinds : kinded (length front) run (kind_of b (length run)) ≡ Ok (word k (length front) run) = ap (kinded (length front) run) found in
      gives (length run - 1) (word k (length front) run) (outside, refl, inr (start is, is, refl, found)) (in_word (push_other front b false outside (word_byte_no_feed b is) (word_byte_no_comment b is)) (front, b, refl, is) left)
      (at_word no_blank no_comment ∙ ap (λ r. and_then r rest_of) (front_is true no_open no_close is ∙ kinds)) (word_free front b bytes k is found)

  -- at each kind of byte one turn is right
  plain_by : (blank comment opens closes is : Bool) → is_blank b ≡ blank → eqb b 59 ≡ comment → eqb b 40 ≡ opens → eqb b 41 ≡ closes → is_word_byte b ≡ is → Turn 0 front b bytes
  plain_by true comment opens closes is e1 e2 e3 e4 e5 =
      passes_by 0 (blank_none front b bytes e1) (between (push_blank front b (eqb b 10) refl outside e1) (between_after front b (blank_no_word b e1))) (rw e1 refl) (blank_free front b bytes e1)
  plain_by false true opens closes is e1 e2 e3 e4 e5 =
      let mark = mark_printable b 59 e2 refl refl in
      passes_by (prefix_len is_comment_byte bytes) (comment_none front b bytes e2) (in_comment (push_comment front b e2) refl) (rw (e1, e2) refl) (mark_free front b bytes mark.0 mark.1)
  plain_by false false true closes is e1 e2 e3 e4 e5 =
      let mark = mark_printable b 40 e3 refl refl in
      let no_feed : eqb b 10 ≡ false = grind (arith, nat_tests, e3) in
      gives 0 (word kind.Open (length front) (b ∷ [])) (outside, refl, inl (inl (eqb-true b 40 e3, refl), refl)) (between (push_other front b false outside no_feed e2) (between_after front b mark.1)) (rw (e1, e2, e3) refl) (mark_free front b bytes mark.0 mark.1)
  plain_by false false false true is e1 e2 e3 e4 e5 =
      let mark = mark_printable b 41 e4 refl refl in
      let no_feed : eqb b 10 ≡ false = grind (arith, nat_tests, e4) in
      gives 0 (word kind.Close (length front) (b ∷ [])) (outside, refl, inl (inr (eqb-true b 41 e4, refl), refl)) (between (push_other front b false outside no_feed e2) (between_after front b mark.1)) (rw (e1, e2, e3, e4) refl) (mark_free front b bytes mark.0 mark.1)
  plain_by false false false false true e1 e2 e3 e4 e5 = word_turn (kind_of b (length run)) e1 e2 e3 e4 e5 refl
  plain_by false false false false false e1 e2 e3 e4 e5 =
      stops (NotAscii (length front)) (at_word e1 e2 ∙ ap (λ r. and_then r rest_of) (front_is false e3 e4 e5)) (refl, (outside, e1, no_word_byte b e3 e4 e2 e5))

  -- outside words and comments one turn is right
  plain_turn : Turn 0 front b bytes
  plain_turn = plain_by (is_blank b) (eqb b 59) (eqb b 40) (eqb b 41) (is_word_byte b) refl refl refl refl refl

-- a line feed is a blank
feed_blank : (b : ℕ) → eqb b 10 ≡ true → is_blank b ≡ true
feed_blank b is = let same : b ≡ 10 = eqb-true b 10 is in rw same refl

-- what can't fail holds
not_false : (t : Bool) → not t ≡ false → t ≡ true
not_false true e = refl
not_false false e = absurd cc

-- what can't hold fails
not_true : (t : Bool) → not t ≡ true → t ≡ false
not_true true e = absurd cc
not_true false e = refl

-- a comment goes on until a line feed
comment_push : (front : List ℕ) (b : ℕ) → is_in_comment false front ≡ true → eqb b 10 ≡ false → is_in_comment false (front ++ b ∷ []) ≡ true
comment_push front b inside no_feed = in_comment_push false front b ∙ rw (no_feed, inside) refl

-- one turn is right wherever it begins
turn : (n : ℕ) (front : List ℕ) (b : ℕ) (bytes : List ℕ) → Mode n front (b ∷ bytes) → Turn n front b bytes
turn zero front b bytes (between outside start) = plain_turn front b bytes outside (λ _. start)
turn zero front b bytes (in_word outside ends len) =
    let no : is_word_byte b ≡ false = end_of_run (is_word_byte b) (prefix_len is_word_byte bytes) len in
    plain_turn front b bytes outside (λ is. absurd cc)
turn zero front b bytes (in_comment inside len) =
    let feed : eqb b 10 ≡ true = not_false (eqb b 10) (end_of_run (is_comment_byte b) (prefix_len is_comment_byte bytes) len) in
    let blank = feed_blank b feed in
    passes_by 0 (in_comment_none front b bytes inside) (between (push_feed front b feed) (between_after front b (blank_no_word b blank))) (rw blank refl) (in_comment_free front b bytes inside)
turn (suc n) front b bytes (in_word outside ends len) =
    let first = first_of_run (is_word_byte b) n (prefix_len is_word_byte bytes) len in
    passes_by n (in_word_none front b bytes ends first.0) (in_word (push_other front b false outside (word_byte_no_feed b first.0) (word_byte_no_comment b first.0)) (front, b, refl, first.0) first.1)
    refl (in_word_free front b bytes ends first.0)
turn (suc n) front b bytes (in_comment inside len) =
    let first = first_of_run (is_comment_byte b) n (prefix_len is_comment_byte bytes) len in
    passes_by n (in_comment_none front b bytes inside) (in_comment (comment_push front b inside (not_true (eqb b 10) first.0)) first.1) refl (in_comment_free front b bytes inside)

-- ---- the words

-- words with one in front are that one and the rest
before_ok : (w : Word) (r : Result (List Word) TextFault) (ws : List Word) → before (w ∷ []) r ≡ Ok ws → (rest : List Word) × (r ≡ Ok rest) × (ws ≡ w ∷ rest)
before_ok w (Ok vs) ws e = (vs, refl, cc)
before_ok w (Err f) ws e = absurd cc

-- a list with one value more is longer by one
length_push : (front : List ℕ) (b : ℕ) → length (front ++ b ∷ []) ≡ length front + 1
length_push front b = length-append front (b ∷ [])

-- the words from a byte on are right if those after it are
words_by : (n : ℕ) (front bytes : List ℕ) (b : ℕ) (ws : List Word) → Turn n front b bytes
    → ((m : ℕ) (vs : List Word) → Mode m (front ++ b ∷ []) bytes → words_from m (length (front ++ b ∷ [])) bytes ≡ Ok vs → AreWords (front ++ b ∷ []) bytes vs)
    → words_from n (length front) (b ∷ bytes) ≡ Ok ws → AreWords front (b ∷ bytes) ws
words_by n front bytes b ws (stops found is here) rest e = absurd cc
words_by n front bytes b ws (gives m w here mode step free) rest e =
    let more = before_ok w _ ws (sym step ∙ e) in
    rw more.2 (begins here (rest m more.0 mode (ap (λ p. words_from m p bytes) (length_push front b) ∙ more.1)))
words_by n front bytes b ws (passes_by m none mode step free) rest e = passes none (rest m ws mode (ap (λ p. words_from m p bytes) (length_push front b) ∙ sym step ∙ e))

-- the words that are read are those that stand in the text
words_in : (bytes : List ℕ) (n : ℕ) (front : List ℕ) (ws : List Word) → Mode n front bytes → words_from n (length front) bytes ≡ Ok ws → AreWords front bytes ws
words_in [] n front ws mode e = let none : ws ≡ [] = cc in rw none end
words_in (b ∷ bytes) n front ws mode e = words_by n front bytes b ws (turn n front b bytes mode) (λ m vs next f. words_in bytes m (front ++ b ∷ []) vs next f) e

-- ---- the first fault

-- a fault after words is a fault of what follows
before_fault : (front : List Word) (r : Result (List Word) TextFault) (fault : TextFault) → before front r ≡ Err fault → r ≡ Err fault
before_fault front (Ok ws) fault e = absurd cc
before_fault front (Err f) fault e = cc

-- a fault that stands at a byte stands in the text
here_at : (fault : TextFault) (text front rest : List ℕ) (b : ℕ) → text ≡ front ++ b ∷ rest → FaultHere fault front b rest → WordFaultAt text fault
here_at (NotAscii place) text front rest b whole h = (front, b, rest, whole, sym h.0, h.1)
here_at (BadWord place) text front rest b whole h = (front, b, rest, whole, sym h.0, h.1)
here_at _ text front rest b whole h = absurd h

-- a fault that stands at a byte names its place
place_here : (fault : TextFault) (front rest : List ℕ) (b : ℕ) → FaultHere fault front b rest → place_of fault ≡ length front
place_here (NotAscii place) front rest b h = h.0
place_here (BadWord place) front rest b h = h.0
place_here _ front rest b h = absurd h

-- the fault from a byte on stands if that after it does
stands_by : (n : ℕ) (front bytes text : List ℕ) (b : ℕ) (fault : TextFault) → text ≡ front ++ b ∷ bytes → Turn n front b bytes
    → ((m : ℕ) → Mode m (front ++ b ∷ []) bytes → words_from m (length (front ++ b ∷ [])) bytes ≡ Err fault → WordFaultAt text fault)
    → words_from n (length front) (b ∷ bytes) ≡ Err fault → WordFaultAt text fault
stands_by n front bytes text b fault whole (stops found is here) rest e =
    let same : found ≡ fault = cc in
    here_at fault text front bytes b whole (rw same at here)
stands_by n front bytes text b fault whole (gives m w here mode step free) rest e =
    let later : words_from m (length front + 1) bytes ≡ Err fault = before_fault (w ∷ []) _ fault (sym step ∙ e) in
    rest m mode (ap (λ p. words_from m p bytes) (length_push front b) ∙ later)
stands_by n front bytes text b fault whole (passes_by m none mode step free) rest e = rest m mode (ap (λ p. words_from m p bytes) (length_push front b) ∙ sym step ∙ e)

-- the fault that is found stands at its place
stands_from : (bytes : List ℕ) (n : ℕ) (front text : List ℕ) (fault : TextFault) → text ≡ front ++ bytes → Mode n front bytes → words_from n (length front) bytes ≡ Err fault → WordFaultAt text fault
stands_from [] n front text fault whole mode e = absurd cc
stands_from (b ∷ bytes) n front text fault whole mode e =
    stands_by n front bytes text b fault whole (turn n front b bytes mode)
    (λ m next later. stands_from bytes m (front ++ b ∷ []) text fault (whole ∙ sym (append_assoc front (b ∷ []) bytes)) next later) e

-- ---- no fault before it

-- reading stops at a place or before it
abbrev StopsBy : Result (List Word) TextFault → ℕ → Type 0
StopsBy r place = (found : TextFault) × (r ≡ Err found) × (place_of found ≤ place)

-- reading stops by the place of a fault if it does from the next byte on
least_by : (n : ℕ) (front bytes : List ℕ) (b : ℕ) (place : ℕ) → length front ≤ place → Turn n front b bytes
    → (((fault : TextFault) → FaultHere fault front b bytes → ⊥) → (m : ℕ) → Mode m (front ++ b ∷ []) bytes → StopsBy (words_from m (length (front ++ b ∷ [])) bytes) place)
    → StopsBy (words_from n (length front) (b ∷ bytes)) place
least_by n front bytes b place less (stops found is here) rest = (found, is, rw (place_here found front bytes b here) less)
least_by n front bytes b place less (gives m w here mode step free) rest =
    let later = rest free m mode in
    let same : words_from m (length front + 1) bytes ≡ Err later.0 = sym (ap (λ p. words_from m p bytes) (length_push front b)) ∙ later.1 in
    (later.0, step ∙ ap (before (w ∷ [])) same, later.2)
least_by n front bytes b place less (passes_by m none mode step free) rest =
    let later = rest free m mode in
    (later.0, step ∙ sym (ap (λ p. words_from m p bytes) (length_push front b)) ∙ later.1, later.2)

-- reading stops by the place of each fault
least_from : (bytes : List ℕ) (n : ℕ) (front mid rest : List ℕ) (b : ℕ) (fault : TextFault) → bytes ≡ mid ++ b ∷ rest → Mode n front bytes → FaultHere fault (front ++ mid) b rest → StopsBy (words_from n (length front) bytes) (length (front ++ mid))
least_from [] n front [] rest b fault split mode here = absurd cc
least_from [] n front (x ∷ mid) rest b fault split mode here = absurd cc
least_from (x ∷ bytes) n front [] rest b fault split mode here =
    let first : x ≡ b = cc in
    let tail : bytes ≡ rest = cc in
    let none : front ++ [] ≡ front = append-nil front in
    let at : FaultHere fault front x bytes = rw (first, tail) (rw none at here) in
    rw none (least_by n front bytes x (length front) (omega arith) (turn n front x bytes mode) (λ free m next. absurd (free fault at)))
least_from (x ∷ bytes) n front (y ∷ mid) rest b fault split mode here =
    let first : x ≡ y = cc in
    let tail : bytes ≡ mid ++ b ∷ rest = cc in
    let joined : front ++ y ∷ mid ≡ (front ++ x ∷ []) ++ mid = rw first (sym (append_assoc front (y ∷ []) mid)) in
    let at : FaultHere fault ((front ++ x ∷ []) ++ mid) b rest = rw joined at here in
    rw joined (least_by n front bytes x (length ((front ++ x ∷ []) ++ mid)) (omega (arith, length-append (front ++ x ∷ []) mid, length_push front x)) (turn n front x bytes mode)
    (λ free m next. least_from bytes m (front ++ x ∷ []) mid rest b fault tail next at))

-- ---- the faults of a text

-- before the text no word has begun
between_none : IsBetweenWords []
between_none [] b e = absurd cc
between_none (x ∷ before) b e = absurd cc

-- at the start neither a word nor a comment goes on
at_start : (text : List ℕ) → Mode 0 [] text
at_start text = between refl between_none

-- a text that is too long has that fault
long_fault : (t : Bool) (text : List ℕ) (fault : TextFault) → ltb max_bytes (length text) ≡ t → cond t (Err (TooLong max_bytes)) (words_from 0 0 text) ≡ Err fault → WordFaultAt text fault
long_fault true text fault is e =
    let same : fault ≡ TooLong max_bytes = cc in
    let long : max_bytes < length text = grind (arith, nat_tests, is) in
    rw same (refl, long)
long_fault false text fault is e = stands_from text 0 [] text fault refl (at_start text) e

-- a text that isn't too long has the words that are read
words_of_by : (t : Bool) (text : List ℕ) (ws : List Word) → ltb max_bytes (length text) ≡ t → cond t (Err (TooLong max_bytes)) (words_from 0 0 text) ≡ Ok ws → AreWords [] text ws
words_of_by true text ws is e = absurd cc
words_of_by false text ws is e = words_in text 0 [] ws (at_start text) e

-- the words that are read are those that stand in the text
pub words_of : (text : List ℕ) (ws : List Word) → words text ≡ Ok ws → AreWords [] text ws
words_of text ws e = words_of_by (ltb max_bytes (length text)) text ws refl e

-- what `lex` answers other than want of memory is a fault where it says
pub word_fault_at : (text : List ℕ) (fault : TextFault) → words text ≡ Err fault → WordFaultAt text fault
word_fault_at text fault e = long_fault (ltb max_bytes (length text)) text fault refl e

-- where a fault stands, reading stops there or before
stopped : (text : List ℕ) (other : TextFault) → length text ≤ max_bytes → other ≢ OutOfMemory → WordFaultAt text other → StopsBy (words_from 0 0 text) (place_of other)
stopped text (NotAscii place) fits some (front, b, rest, whole, here, is) = rw (← here) (least_from text 0 [] front rest b (NotAscii place) whole (at_start text) (sym here, is))
stopped text (BadWord place) fits some (front, b, rest, whole, here, is) = rw (← here) (least_from text 0 [] front rest b (BadWord place) whole (at_start text) (sym here, is))
stopped text (TooLong place) fits some h = absurd (omega (arith, h.1))
stopped text OutOfMemory fits some h = absurd (some refl)
stopped text _ fits some h = absurd h

-- a fault before all others is leftmost
leftmost_of : (text : List ℕ) (fault : TextFault) → ((other : TextFault) → other ≢ OutOfMemory → WordFaultAt text other → place_of fault ≤ place_of other) → IsLeftmost text fault
leftmost_of text (TooLong place) h = tt
leftmost_of text OutOfMemory h = tt
leftmost_of text _ h = h

-- the fault that is found is leftmost, whether the text is too long or not
leftmost_by : (t : Bool) (text : List ℕ) (fault : TextFault) → ltb max_bytes (length text) ≡ t → cond t (Err (TooLong max_bytes)) (words_from 0 0 text) ≡ Err fault → IsLeftmost text fault
leftmost_by true text fault is e = let same : fault ≡ TooLong max_bytes = cc in rw same tt
leftmost_by false text fault is e =
    let fits : length text ≤ max_bytes = grind (arith, nat_tests, is) in
    leftmost_of text fault (λ other some h.
    let s = stopped text other fits some h in
    let same : fault ≡ s.0 = let found = s.1 in cc in
    rw same s.2)

-- the fault that is found is leftmost
pub word_fault_leftmost : (text : List ℕ) (fault : TextFault) → words text ≡ Err fault → IsLeftmost text fault
word_fault_leftmost text fault e = leftmost_by (ltb max_bytes (length text)) text fault refl e

-- where words are read, no fault stands, as the text isn't too long
free_by : (t : Bool) (text : List ℕ) (ws : List Word) → ltb max_bytes (length text) ≡ t → cond t (Err (TooLong max_bytes)) (words_from 0 0 text) ≡ Ok ws → HasNoWordFault text
free_by true text ws is e fault some h = absurd cc
free_by false text ws is e fault some h =
    let fits : length text ≤ max_bytes = grind (arith, nat_tests, is) in
    let s = stopped text fault fits some h in
    let found = s.1 in
    cc

-- where words are read, no fault stands
pub words_free : (text : List ℕ) (ws : List Word) → words text ≡ Ok ws → HasNoWordFault text
words_free text ws e = free_by (ltb max_bytes (length text)) text ws refl e

-- the same where the fault may be want of memory
pub word_fault_stands : (text : List ℕ) (fault : TextFault) → (fault ≢ OutOfMemory → words text ≡ Err fault) → WordFaultAt text fault × IsLeftmost text fault
word_fault_stands text OutOfMemory h = (tt, tt)
word_fault_stands text (NotAscii place) h = (word_fault_at text _ (h (λ e. cc)), word_fault_leftmost text _ (h (λ e. cc)))
word_fault_stands text (BadWord place) h = (word_fault_at text _ (h (λ e. cc)), word_fault_leftmost text _ (h (λ e. cc)))
word_fault_stands text (Unclosed place) h = (word_fault_at text _ (h (λ e. cc)), word_fault_leftmost text _ (h (λ e. cc)))
word_fault_stands text (ExtraClose place) h = (word_fault_at text _ (h (λ e. cc)), word_fault_leftmost text _ (h (λ e. cc)))
word_fault_stands text (TooDeep place) h = (word_fault_at text _ (h (λ e. cc)), word_fault_leftmost text _ (h (λ e. cc)))
word_fault_stands text (Expected place) h = (word_fault_at text _ (h (λ e. cc)), word_fault_leftmost text _ (h (λ e. cc)))
word_fault_stands text (Unsupported place) h = (word_fault_at text _ (h (λ e. cc)), word_fault_leftmost text _ (h (λ e. cc)))
word_fault_stands text (TooLong place) h = (word_fault_at text _ (h (λ e. cc)), word_fault_leftmost text _ (h (λ e. cc)))
