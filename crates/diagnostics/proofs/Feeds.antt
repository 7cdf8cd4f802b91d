-- The table of line feeds: what it holds, and how it tells lines and columns.
use Rattle.std.proofs.Common.{◌≡◌, ℕ, zero, suc, ◌+◌, ◌-◌, ◌<◌, ◌≤◌, Bool, true, false, not, cond, eqb-true, List, [], ◌∷◌, ◌++◌, length, get_or, take, drop, count_by, refl, sym, ap, ◌∙◌, subst, ⊎_elim, arith, add-zero, length-append}
use Rattle.std.proofs.lemmas.Bool.{cond_both, ne_eqb, eq-eqb, cases_lt, not_from_false}
use Rattle.std.proofs.lemmas.List.{take-append-drop, length-take-le, take_more, append-nil, get_or-take, get_or_read, get_or_append_left, get_or-append_right}
use Rattle.std.proofs.lemmas.List.Sums.{sum_by-cons, suffix_len_is}
use Rattle.diagnostics.specs.Places.{is_line_feed, is_in_line, column_of, position, feeds_from, start_of}

-- ---- numbers in rising order, within bounds

-- each number is within the bounds
abbrev pub AreWithin : ℕ → ℕ → List ℕ → Type 0
AreWithin low high fs = (i : ℕ) → i < length fs → (low ≤ get_or fs i 0) × (get_or fs i 0 < high)

-- each number is below those after it
abbrev pub Rise : List ℕ → Type 0
Rise fs = (i j : ℕ) → i < j → j < length fs → get_or fs i 0 < get_or fs j 0

within_cons : (low high f : ℕ) (fs : List ℕ) → low ≤ f → f < high → AreWithin low high fs → AreWithin low high (f ∷ fs)
within_cons low high f fs a b rest zero h = (a, b)
within_cons low high f fs a b rest (suc i) h = rest i (omega arith)

rise_cons : (high f : ℕ) (fs : List ℕ) → AreWithin (f + 1) high fs → Rise fs → Rise (f ∷ fs)
rise_cons high f fs within rest i zero below h = absurd (omega arith)
rise_cons high f fs within rest zero (suc j) below h = let w = within j (omega arith) in omega (arith, w.0)
rise_cons high f fs within rest (suc i) (suc j) below h = rest i j (omega arith) (omega arith)

-- a number is no greater than those after it
pub rise_le : (fs : List ℕ) → Rise fs → (i j : ℕ) → i ≤ j → j < length fs → get_or fs i 0 ≤ get_or fs j 0
rise_le fs rise i j le h =
    ⊎_elim (λ lt. let a = rise i j lt h in omega arith) (λ ge. let e : i ≡ j = omega arith in omega (arith, ap (λ k. get_or fs k 0) e)) (cases_lt i j)

-- ---- the places of line feeds

-- they are places of the bytes
pub feeds_within : (place : ℕ) (bytes : List ℕ) → AreWithin place (place + length bytes) (feeds_from place bytes)
feeds_within place [] = λ i h. absurd (omega arith)
feeds_within place (b ∷ bytes) =
    let fs = feeds_from (place + 1) bytes in
    let high = place + length (b ∷ bytes) in
    let rest : AreWithin place high fs = λ i h. let r = feeds_within (place + 1) bytes i h in (omega (arith, r.0), omega (arith, r.1)) in
    cond_both (is_line_feed b) (place ∷ fs) fs (AreWithin place high) (λ feed. within_cons place high place fs (omega arith) (omega arith) rest) (λ other. rest)

-- they rise
pub feeds_rise : (place : ℕ) (bytes : List ℕ) → Rise (feeds_from place bytes)
feeds_rise place [] = λ i j below h. absurd (omega arith)
feeds_rise place (b ∷ bytes) =
    let fs = feeds_from (place + 1) bytes in
    cond_both (is_line_feed b) (place ∷ fs) fs Rise (λ feed. rise_cons _ place fs (feeds_within (place + 1) bytes) (feeds_rise (place + 1) bytes)) (λ other. feeds_rise (place + 1) bytes)

-- at each stands a line feed
abbrev AreFeeds : ℕ → List ℕ → List ℕ → Type 0
AreFeeds place bytes fs = (i : ℕ) → i < length fs → get_or bytes (get_or fs i 0 - place) 0 ≡ 10

-- the same of one byte more, of which none of the numbers is the place
feeds_after : (place b : ℕ) (bytes fs : List ℕ) → AreWithin (place + 1) (place + 1 + length bytes) fs → AreFeeds (place + 1) bytes fs → AreFeeds place (b ∷ bytes) fs
feeds_after place b bytes fs within are i h =
    let w = within i h in
    let e : get_or fs i 0 - place ≡ suc (get_or fs i 0 - (place + 1)) = omega (arith, w.0) in
    rw e (are i h)

feeds_cons : (place b : ℕ) (bytes fs : List ℕ) → is_line_feed b ≡ true → AreFeeds place (b ∷ bytes) fs → AreFeeds place (b ∷ bytes) (place ∷ fs)
feeds_cons place b bytes fs feed are zero h =
    let e : place - place ≡ 0 = omega arith in
    rw e (eqb-true b 10 feed)
feeds_cons place b bytes fs feed are (suc i) h = are i (omega arith)

pub feeds_are : (place : ℕ) (bytes : List ℕ) → AreFeeds place bytes (feeds_from place bytes)
feeds_are place [] = λ i h. absurd (omega arith)
feeds_are place (b ∷ bytes) =
    let fs = feeds_from (place + 1) bytes in
    let rest = feeds_after place b bytes fs (feeds_within (place + 1) bytes) (feeds_are (place + 1) bytes) in
    cond_both (is_line_feed b) (place ∷ fs) fs (AreFeeds place (b ∷ bytes)) (λ feed. feeds_cons place b bytes fs feed rest) (λ other. rest)

-- a number is among them
abbrev pub IsAmong : ℕ → List ℕ → Type 0
IsAmong f fs = (i : ℕ) × (i < length fs) × (get_or fs i 0 ≡ f)

among_cons : (f g : ℕ) (fs : List ℕ) → IsAmong f fs → IsAmong f (g ∷ fs)
among_cons f g fs found = (suc found.0, omega (arith, found.1), found.2)

among_first : (f g : ℕ) (fs : List ℕ) → g ≡ f → IsAmong f (g ∷ fs)
among_first f g fs e = (0, omega arith, e)

-- each line feed is among them
pub feeds_all : (place : ℕ) (bytes : List ℕ) (k : ℕ) → k < length bytes → get_or bytes k 0 ≡ 10 → IsAmong (place + k) (feeds_from place bytes)
feeds_all place [] k h feed = absurd (omega arith)
feeds_all place (b ∷ bytes) zero h feed =
    let fs = feeds_from (place + 1) bytes in
    let is : is_line_feed b ≡ true = eq-eqb b 10 feed in
    rw is (among_first (place + 0) place fs (omega arith))
feeds_all place (b ∷ bytes) (suc k) h feed =
    let fs = feeds_from (place + 1) bytes in
    let e : place + 1 + k ≡ place + suc k = omega arith in
    let found : IsAmong (place + suc k) fs = subst (λ n. IsAmong n fs) e (feeds_all (place + 1) bytes k (omega arith) feed) in
    cond_both (is_line_feed b) (place ∷ fs) fs (IsAmong (place + suc k)) (λ here. among_cons (place + suc k) place fs found) (λ other. found)

-- there are as many as line feeds
pub length-feeds : (place : ℕ) (bytes : List ℕ) → length (feeds_from place bytes) ≡ count_by is_line_feed bytes
length-feeds place [] = refl
length-feeds place (b ∷ bytes) =
    let fs = feeds_from (place + 1) bytes in
    let more = length-feeds (place + 1) bytes in
    let e = sum_by-cons (λ x. cond (is_line_feed x) 1 0) b bytes in
    e-joined (is_line_feed b) place fs _ _ more e
  where
    e-joined : (t : Bool) (place : ℕ) (fs : List ℕ) (n m : ℕ) → length fs ≡ n → m ≡ cond t 1 0 + n → length (cond t (place ∷ fs) fs) ≡ m
    e-joined true place fs n m a e = omega (arith, a, e)
    e-joined false place fs n m a e = omega (arith, a, e)

-- those of two parts
pub feeds-append : (place : ℕ) (xs ys : List ℕ) → feeds_from place (xs ++ ys) ≡ feeds_from place xs ++ feeds_from (place + length xs) ys
feeds-append place [] ys = ap (λ n. feeds_from n ys) (sym (add-zero place))
feeds-append place (x ∷ xs) ys =
    let e : place + 1 + length xs ≡ place + length (x ∷ xs) = omega arith in
    let more : feeds_from (place + 1) (xs ++ ys) ≡ feeds_from (place + 1) xs ++ feeds_from (place + length (x ∷ xs)) ys = feeds-append (place + 1) xs ys ∙ ap (λ n. feeds_from (place + 1) xs ++ feeds_from n ys) e in
    chosen (is_line_feed x) place _ _ _ more
  where
    chosen : (t : Bool) (place : ℕ) (all front back : List ℕ) → all ≡ front ++ back → cond t (place ∷ all) all ≡ cond t (place ∷ front) front ++ back
    chosen true place all front back e = ap (λ l. place ∷ l) e
    chosen false place all front back e = e

-- one byte more
pub feeds_push : (bytes : List ℕ) (b : ℕ) → feeds_from 0 (bytes ++ b ∷ []) ≡ feeds_from 0 bytes ++ cond (is_line_feed b) (length bytes ∷ []) []
feeds_push bytes b =
    let e : 0 + length bytes ≡ length bytes = omega arith in
    feeds-append 0 bytes (b ∷ []) ∙ ap (λ n. feeds_from 0 bytes ++ cond (is_line_feed b) (n ∷ []) []) e

-- ---- a place among them

-- the first numbers, as many as the count says, are below the place, and those after them are not
pub record Parts (fs : List ℕ) (place count : ℕ) : Type 0 where
  pub within : count ≤ length fs
  pub below : (i : ℕ) → i < count → get_or fs i 0 < place
  pub above : (i : ℕ) → count ≤ i → i < length fs → place ≤ get_or fs i 0

-- there is one such count
pub parts_once : (fs : List ℕ) (place n m : ℕ) → Parts fs place n → Parts fs place m → n ≡ m
parts_once fs place n m p q =
    ⊎_elim (λ lt. absurd (let a = q.below n lt in let w = q.within in let b = p.above n (omega arith) (omega arith) in omega arith))
    (λ le. ⊎_elim (λ lt. absurd (let a = p.below m lt in let w = p.within in let b = q.above m (omega arith) (omega arith) in omega arith)) (λ ge. omega arith) (cases_lt m n))
    (cases_lt n m)

-- it is the number of line feeds before the place
pub parts_of : (text : List ℕ) (place : ℕ) → place ≤ length text → Parts (feeds_from 0 text) place (count_by is_line_feed (take place text))
parts_of text place h =
    let front = take place text in
    let back = drop place text in
    let low = feeds_from 0 front in
    let high = feeds_from place back in
    let len : length front ≡ place = length-take-le place text h in
    let at : 0 + length front ≡ place = omega (arith, len) in
    let parted : feeds_from 0 text ≡ low ++ high = ap (feeds_from 0) (sym (take-append-drop place text)) ∙ feeds-append 0 front back ∙ ap (λ n. low ++ feeds_from n back) at in
    let count : length low ≡ count_by is_line_feed front = length-feeds 0 front in
    let all : length (low ++ high) ≡ length low + length high = length-append low high in
    subst (λ n. Parts (feeds_from 0 text) place n) count
    (subst (λ fs. Parts fs place (length low)) (sym parted) (record {
      within = omega (arith, all);
      below = λ i lt. let w = feeds_within 0 front i lt in rw get_or_append_left (omega (arith, w.1, len));
      above = λ i le lt. let w = feeds_within place back (i - length low) (omega (arith, all)) in
          let e = get_or-append_right low high (length low) i 0 refl le in omega (arith, e, w.0);
    }))

-- ---- lines and columns

-- a byte that is no line feed is part of a line
pub in_line : (b : ℕ) → (b ≡ 10 → ⊥) → is_in_line b ≡ true
in_line b other = not_from_false (is_line_feed b) (ne_eqb b 10 other)

-- a line feed doesn't
pub not_in_line : (b : ℕ) → b ≡ 10 → is_in_line b ≡ false
not_in_line b feed = ap not (eq-eqb b 10 feed)

-- from the beginning of the line after the first line feeds on, none follows up to the place
pub record LineStands (text : List ℕ) (place count : ℕ) : Type 0 where
  pub before : start_of text count ≤ place
  pub clear : (q : ℕ) → start_of text count ≤ q → q < length text → ((i : ℕ) → count ≤ i → i < length (feeds_from 0 text) → q < get_or (feeds_from 0 text) i 0) → get_or text q 0 ≡ 10 → ⊥
  pub after_feed : 0 < start_of text count → get_or text (start_of text count - 1) 0 ≡ 10

line_stands : (text : List ℕ) (place count : ℕ) → count ≤ length (feeds_from 0 text) → ((i : ℕ) → i < count → get_or (feeds_from 0 text) i 0 < place) → LineStands text place count
line_stands text place zero within below = record {
  before = omega arith;
  clear = λ q a lt above feed. let found = feeds_all 0 text q lt feed in let up = above found.0 (omega arith) found.1 in omega (arith, up, found.2);
  after_feed = λ lt. absurd (omega arith);
}
line_stands text place (suc j) within below =
    let fs = feeds_from 0 text in
    let b = below j (omega arith) in
    record {
      before = omega arith;
      clear = λ q a lt above feed.
          let found = feeds_all 0 text q lt feed in
          ⊎_elim (λ early. let up = rise_le fs (feeds_rise 0 text) found.0 j (omega arith) (omega arith) in omega (arith, up, found.2)) (λ late. let up = above found.0 late found.1 in omega (arith, up, found.2)) (cases_lt found.0 (suc j));
      after_feed = λ lt. let e : get_or fs j 0 + 1 - 1 ≡ get_or fs j 0 - 0 = omega arith in rw e (feeds_are 0 text j (omega arith));
    }

-- the column by the place where the line begins
pub column_is : (text : List ℕ) (place : ℕ) → place ≤ length text → column_of text place ≡ place - start_of text (count_by is_line_feed (take place text))
column_is text place h =
    let fs = feeds_from 0 text in
    let front = take place text in
    let count = count_by is_line_feed front in
    let start = start_of text count in
    let p = parts_of text place h in
    let stands = line_stands text place count p.within p.below in
    let len : length front ≡ place = length-take-le place text h in
    let within : start ≤ length front = omega (arith, len, stands.before) in
    let seen : (k : ℕ) → k < place → get_or front k 0 ≡ get_or text k 0 = λ k lt. get_or-take place text k 0 lt in
    let passes : (k : ℕ) → start ≤ k → k < length front → is_in_line (get_or front k 0) ≡ true =
    λ k le lt. let short : k < place = omega (arith, len) in
    in_line (get_or front k 0) (λ feed. stands.clear k le (omega arith) (λ i ge il. let a = p.above i ge il in omega arith) (sym (seen k short) ∙ feed)) in
    let stops : 0 < start → is_in_line (get_or front (start - 1) 0) ≡ false =
    λ some. not_in_line (get_or front (start - 1) 0) (seen (start - 1) (omega (arith, stands.before)) ∙ stands.after_feed some) in
    suffix_len_is is_in_line front start 0 within passes stops ∙ ap (λ n. n - start) len

pub start_le : (text : List ℕ) (place : ℕ) → place ≤ length text → start_of text (count_by is_line_feed (take place text)) ≤ place
start_le text place h =
    let p = parts_of text place h in
    (line_stands text place (count_by is_line_feed (take place text)) p.within p.below).before

-- no line feed stands from the beginning of a line up to its own
pub clear_to : (text : List ℕ) (count q : ℕ) → count ≤ length (feeds_from 0 text) → start_of text count ≤ q → q < length text → (count < length (feeds_from 0 text) → q < get_or (feeds_from 0 text) count 0) → get_or text q 0 ≡ 10 → ⊥
clear_to text count q within after inside before feed =
    let fs = feeds_from 0 text in
    let rise = feeds_rise 0 text in
    let all : (i : ℕ) → i < count → get_or fs i 0 < length text = λ i lt. let w = feeds_within 0 text i (omega arith) in omega (arith, w.1) in
    (line_stands text (length text) count within all).clear q after inside (λ i ge lt. let a = before (omega arith) in let b = rise_le fs rise count i ge lt in omega arith) feed

-- a line begins within the text
pub start_within : (text : List ℕ) (count : ℕ) → count ≤ length (feeds_from 0 text) → start_of text count ≤ length text
start_within text count within =
    let all : (i : ℕ) → i < count → get_or (feeds_from 0 text) i 0 < length text = λ i lt. let w = feeds_within 0 text i (omega arith) in omega (arith, w.1) in
    (line_stands text (length text) count within all).before

-- and no later than its line feed
pub start_le_feed : (text : List ℕ) (count : ℕ) → count < length (feeds_from 0 text) → start_of text count ≤ get_or (feeds_from 0 text) count 0
start_le_feed text count within =
    (line_stands text (get_or (feeds_from 0 text) count 0) count (omega arith) (λ i lt. feeds_rise 0 text i count lt within)).before

-- there are as many line feeds as the text has
pub count_feeds : (text : List ℕ) → length (feeds_from 0 text) ≡ count_by is_line_feed text
count_feeds text = length-feeds 0 text

-- up to a place there are no more
pub count_front : (text : List ℕ) (place : ℕ) → place ≤ length text → count_by is_line_feed (take place text) ≤ count_by is_line_feed text
count_front text place h = let p = parts_of text place h in omega (arith, p.within, length-feeds 0 text)

-- ---- the table

-- one byte more, which is a line feed
pub feeds_more_yes : (text : List ℕ) (i : ℕ) → i < length text → get_or text i 0 ≡ 10 → feeds_from 0 (take i text) ++ i ∷ [] ≡ feeds_from 0 (take (i + 1) text)
feeds_more_yes text i h feed =
    let is : is_line_feed (get_or text i 0) ≡ true = eq-eqb _ 10 feed in
    let len : length (take i text) ≡ i = length-take-le i text (omega arith) in
    sym (ap (feeds_from 0) (take_more text i 0 h) ∙ feeds_push (take i text) (get_or text i 0) ∙ rw (is, len))

-- one byte more, which is none
pub feeds_more_no : (text : List ℕ) (i : ℕ) → i < length text → (get_or text i 0 ≡ 10 → ⊥) → feeds_from 0 (take i text) ≡ feeds_from 0 (take (i + 1) text)
feeds_more_no text i h other =
    let is : is_line_feed (get_or text i 0) ≡ false = ne_eqb _ 10 other in
    sym (ap (feeds_from 0) (take_more text i 0 h) ∙ feeds_push (take i text) (get_or text i 0) ∙ rw is (append-nil _))

-- ---- laws

-- the place by its position
pub place_is : (text : List ℕ) (place : ℕ) → place ≤ length text → place ≡ start_of text (count_by is_line_feed (take place text)) + column_of text place
place_is text place h = let a = start_le text place h in omega (arith, column_is text place h, a)

-- two places of one position are one
pub same_place : (text : List ℕ) (place other : ℕ) → place ≤ length text → other ≤ length text → position text place ≡ position text other → place ≡ other
same_place text place other h k e =
    let line : 1 + count_by is_line_feed (take place text) ≡ 1 + count_by is_line_feed (take other text) = ap (λ p. p.line) e in
    let column : 1 + column_of text place ≡ 1 + column_of text other = ap (λ p. p.column) e in
    let count : count_by is_line_feed (take place text) ≡ count_by is_line_feed (take other text) = omega (arith, line) in
    omega (arith, place_is text place h, place_is text other k, ap (start_of text) count, column)

-- ---- the fields of a value

-- the beginning of a line that isn't the first
pub start_at : (text fs : List ℕ) (count x : ℕ) → fs ≡ feeds_from 0 text → (count ≡ 0 → ⊥) → count - 1 < length fs → x ≡ get_or fs (count - 1) x → x + 1 ≡ start_of text count
start_at text fs zero x same some h is = absurd (some refl)
start_at text fs (suc count) x same some h is =
    let e : suc count - 1 ≡ count = omega arith in
    let read = get_or_read fs (suc count - 1) x h is 0 in
    omega (arith, read ∙ ap (λ k. get_or fs k 0) e ∙ ap (λ l. get_or l count 0) same)

-- a line feed of the table
pub feed_at : (text fs : List ℕ) (count x : ℕ) → fs ≡ feeds_from 0 text → count < length fs → x ≡ get_or fs count x → x ≡ get_or (feeds_from 0 text) count 0
feed_at text fs count x same h is = get_or_read fs count x h is 0 ∙ ap (λ l. get_or l count 0) same

-- it stands in the text
pub feed_inside : (text : List ℕ) (count : ℕ) → count < length (feeds_from 0 text) → get_or (feeds_from 0 text) count 0 < length text
feed_inside text count h = let w = feeds_within 0 text count h in omega (arith, w.1)

-- the place at a line and a column is the one that has them
pub found_place : (text : List ℕ) (place feeds before line column : ℕ) → place ≤ length text → position text place ≡ record { line = line; column = column } → line ≡ feeds + 1 → column ≡ before + 1 → (feeds ≤ count_by is_line_feed text) × (place ≡ start_of text feeds + before)
found_place text place feeds before line column h is l c =
    let n = count_by is_line_feed (take place text) in
    let a : 1 + n ≡ line = ap (λ p. p.line) is in
    let b : 1 + column_of text place ≡ column = ap (λ p. p.column) is in
    let count : n ≡ feeds = omega (arith, a) in
    (omega (arith, count, count_front text place h), omega (arith, place_is text place h, ap (start_of text) count, b))
