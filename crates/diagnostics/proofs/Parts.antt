-- The part of a line that is shown.
use Rattle.std.proofs.Common.{◌≡◌, ℕ, ◌+◌, ◌-◌, ◌<◌, ◌≤◌, ◌||◌, ◌&&◌, false, eqb, leb, List, [], ◌∷◌, ◌++◌, length, get_or, take, drop, map, min, count_by, refl, sym, ap, ◌∙◌, ⊎_elim, arith, append_assoc, length-append, length-drop}
use Rattle.std.proofs.lemmas.Bool.{cases_lt, cases_Bool, or_parts, false≢true}
use Rattle.std.proofs.lemmas.List.{take-take, take_all, drop-take, drop_all, drop-drop, take_min, length-take, length-map, map-append, take_at, drop_at, nil_from_length}
use Rattle.diagnostics.specs.Places.{is_line_feed, is_line_end, line_of, column_of, line_start, start_of}
use Rattle.diagnostics.specs.Shown.{Excerpt, first_shown, excerpt, shown, mark, row, pad, padding, StandsBelow}
use Rattle.diagnostics.proofs.Feeds.{column_is, start_le, parts_of, clear_to}
use Rattle.diagnostics.proofs.Ends.{line_of_front, line_of_more, goes_on_at, feed_ends, text_ends}

-- ---- parts of lists

module _ {A : Type 0} where
  -- a front of a front
  take_front : (a b : ℕ) (xs : List A) → take a (take b xs) ≡ take (min a b) xs
  take_front a b xs =
      ⊎_elim (λ lt. let e : min a b ≡ a = omega arith in take-take a b xs (omega arith) ∙ ap (λ n. take n xs) (sym e))
      (λ le. let e : min a b ≡ b = omega arith in take_all a (take b xs) (omega (arith, length-take b xs)) ∙ ap (λ n. take n xs) (sym e))
      (cases_lt a b)

  -- the rest of a front
  drop_front : (a b : ℕ) (xs : List A) → drop a (take b xs) ≡ take (b - a) (drop a xs)
  drop_front a b xs =
      ⊎_elim (λ lt. let e : a + (b - a) ≡ b = omega arith in ap (λ n. drop a (take n xs)) (sym e) ∙ drop-take a (b - a) xs)
      (λ le. let e : b - a ≡ 0 = omega arith in drop_all a (take b xs) (omega (arith, length-take b xs)) ∙ ap (λ n. take n (drop a xs)) (sym e))
      (cases_lt a b)

  -- two fronts with as many elements are one
  same_front : (a b : ℕ) (xs : List A) → min a (length xs) ≡ min b (length xs) → take a xs ≡ take b xs
  same_front a b xs e = sym (take_min a xs) ∙ ap (λ n. take n xs) e ∙ take_min b xs

-- ---- the part around a place

-- the bytes before the place
pub before_part : (line : List ℕ) (column first middle : ℕ) → middle ≡ min (min (length line) (first + 120)) column → first ≤ column → take (middle - first) (drop first line) ≡ take (column - first) (take 120 (drop first line))
before_part line column first middle is le =
    let len = length-drop first line in
    let same : min (middle - first) (length (drop first line)) ≡ min (min (column - first) 120) (length (drop first line)) = omega (arith, len, is) in
    same_front (middle - first) (min (column - first) 120) (drop first line) same ∙ sym (take_front (column - first) 120 (drop first line))

-- the bytes from the place on
pub after_part : (line : List ℕ) (column first middle last : ℕ) → last ≡ min (length line) (first + 120) → middle ≡ min last column → first ≤ column → take (last - middle) (drop middle line) ≡ drop (column - first) (take 120 (drop first line))
after_part line column first middle last ends is le =
    let at : first + (column - first) ≡ column = omega arith in
    let right : drop (column - first) (take 120 (drop first line)) ≡ take (120 - (column - first)) (drop column line) =
    drop_front (column - first) 120 (drop first line) ∙ ap (λ l. take (120 - (column - first)) l) (drop-drop (column - first) first line ∙ ap (λ n. drop n line) at) in
    let len = length-drop column line in
    ⊎_elim
    (λ past. let none : last - middle ≡ 0 = omega (arith, is) in
    let size : length (take (120 - (column - first)) (drop column line)) ≡ 0 = length-take (120 - (column - first)) (drop column line) ∙ omega (arith, len, ends) in
    ap (λ n. take n (drop middle line)) none ∙ sym (nil_from_length _ size) ∙ sym right)
    (λ inside. let e : middle ≡ column = omega (arith, is) in
    let same : min (last - middle) (length (drop column line)) ≡ min (120 - (column - first)) (length (drop column line)) = omega (arith, len, ends, is) in
    ap (λ n. take (last - middle) (drop n line)) e ∙ same_front (last - middle) (120 - (column - first)) (drop column line) same ∙ sym right)
    (cases_lt last column)

-- ---- rows and what stands below them

pad_shown : (b : ℕ) → pad (shown b) ≡ pad b
pad_shown b =
    ⊎_elim (λ as_is. rw as_is refl)
    (λ hidden. let no_tab : eqb b 9 ≡ false = (or_parts (eqb b 9) (leb 32 b && leb b 126) hidden).0 in rw (hidden, no_tab) refl)
    (cases_Bool (eqb b 9 || (leb 32 b && leb b 126)))

map_pad_shown : (bytes : List ℕ) → map pad (map shown bytes) ≡ map pad bytes
map_pad_shown [] = refl
map_pad_shown (b ∷ bytes) = ap (λ x. x ∷ map pad (map shown bytes)) (pad_shown b) ∙ ap (λ l. pad b ∷ l) (map_pad_shown bytes)

-- the row in two, at the place
row_parts : (e : Excerpt) → row e ≡ (mark e.is_cut_before ++ map shown e.before) ++ (map shown e.after ++ mark e.is_cut_after)
row_parts e =
    let m = mark e.is_cut_before in
    let n = mark e.is_cut_after in
    let f = map shown e.before in
    let b = map shown e.after in
    ap (λ l. m ++ l ++ n) (map-append shown e.before e.after) ∙ ap (λ l. l ++ n) (sym (append_assoc m f b)) ∙ append_assoc (m ++ f) b n

length_padding : (e : Excerpt) → length (mark e.is_cut_before ++ map shown e.before) ≡ length (padding e)
length_padding e =
    let m = mark e.is_cut_before in
    let a = length-append m (map shown e.before) in
    let b = length-map e.before shown in
    let c = length-append m e.before in
    let d = length-map (m ++ e.before) pad in
    omega (arith, a, b, c, d)

padding_below : (e : Excerpt) → padding e ≡ map pad (take (length (padding e)) (row e))
padding_below e =
    let m = mark e.is_cut_before in
    let front = m ++ map shown e.before in
    let taken : take (length (padding e)) (row e) ≡ front = ap (take (length (padding e))) (row_parts e) ∙ take_at front _ (length (padding e)) (length_padding e) in
    let same : map pad front ≡ padding e = map-append pad m (map shown e.before) ∙ ap (λ l. map pad m ++ l) (map_pad_shown e.before) ∙ sym (map-append pad m e.before) in
    sym (ap (map pad) taken ∙ same)

row_above : (e : Excerpt) → drop (length (padding e)) (row e) ≡ map shown e.after ++ mark e.is_cut_after
row_above e =
    let front = mark e.is_cut_before ++ map shown e.before in
    ap (drop (length (padding e))) (row_parts e) ∙ drop_at front (map shown e.after ++ mark e.is_cut_after) (length (padding e)) (length_padding e)

-- ---- the excerpt of a text

-- a front of a list is told by its length
front_by_length : (n : ℕ) (xs : List ℕ) → take n xs ≡ take (length (take n xs)) xs
front_by_length n xs = sym (ap (λ m. take m xs) (length-take n xs) ∙ take_min n xs)

module _ (text : List ℕ) (place : ℕ) (h : place ≤ length text) where
  column_le : column_of text place ≤ place
  column_le = omega (arith, column_is text place h)

  -- after the bytes before it, the line has the bytes from the place on
  from_start : drop (column_of text place) (drop (line_start text place) text) ≡ drop place text
  from_start =
      let le = column_le in
      let at : line_start text place + column_of text place ≡ place = omega (arith, le) in
      drop-drop (column_of text place) (line_start text place) text ∙ ap (λ n. drop n text) at

  from_place : (excerpt text place).after ≡ take (length (excerpt text place).after) (drop place text)
  from_place =
      let rest = drop (line_start text place) text in
      let line = line_of rest in
      let c = column_of text place in
      let first = first_shown (length line) c in
      let at : first + (c - first) ≡ c = omega arith in
      let a : drop (c - first) (take 120 (drop first line)) ≡ take (120 - (c - first)) (drop c line) =
      drop_front (c - first) 120 (drop first line) ∙ ap (λ l. take (120 - (c - first)) l) (drop-drop (c - first) first line ∙ ap (λ n. drop n line) at) in
      let b : drop c line ≡ take (length line - c) (drop place text) = ap (drop c) (line_of_front rest) ∙ drop_front c (length line) rest ∙ ap (take (length line - c)) from_start in
      let all = a ∙ ap (take (120 - (c - first))) b ∙ take_front (120 - (c - first)) (length line - c) (drop place text) in
      all ∙ front_by_length _ (drop place text) ∙ ap (λ l. take (length l) (drop place text)) (sym all)

  -- no line ends from its beginning up to a place at which it goes on
  goes_on_to : is_line_end (drop place text) ≡ false → (k : ℕ) → k ≤ column_of text place → is_line_end (drop k (drop (line_start text place) text)) ≡ false
  goes_on_to inside k le =
      let n = count_by is_line_feed (take place text) in
      let start = start_of text n in
      let p = parts_of text place h in
      let col = column_is text place h in
      let sl = start_le text place h in
      let here : place < length text = ⊎_elim (λ lt. lt) (λ ge. absurd (false≢true (sym inside ∙ text_ends text place ge))) (cases_lt place (length text)) in
      let clear : (q : ℕ) → start ≤ q → q ≤ place → get_or text q 0 ≡ 10 → ⊥ =
      λ q after upto feed. ⊎_elim (λ lt. clear_to text n q p.within after (omega arith) (λ some. let b = p.above n (omega arith) some in omega arith) feed)
      (λ ge. let e : q ≡ place = omega arith in false≢true (sym inside ∙ feed_ends text place here (ap (λ m. get_or text m 0) (sym e) ∙ feed))) (cases_lt q place) in
      let q = line_start text place + k in
      ap is_line_end (drop-drop k (line_start text place) text)
      ∙ ⊎_elim (λ lt. goes_on_at text q (omega arith) (clear q (omega (arith, col, sl)) (omega arith)) (λ is some feed. clear (q + 1) (omega (arith, col, sl)) (omega arith) feed))
      (λ ge. let e : q ≡ place = omega (arith, col, sl) in ap (λ m. is_line_end (drop m text)) e ∙ inside) (cases_lt q place)

  has_first : is_line_end (drop place text) ≡ false → 0 < length (excerpt text place).after
  has_first inside =
      let rest = drop (line_start text place) text in
      let line = line_of rest in
      let c = column_of text place in
      let first = first_shown (length line) c in
      let le = column_le in
      let here : place < length text = ⊎_elim (λ lt. lt) (λ ge. absurd (false≢true (sym inside ∙ text_ends text place ge))) (cases_lt place (length text)) in
      let some : c < length rest = omega (arith, length-drop (line_start text place) text) in
      let more : c < length line = line_of_more rest c some (goes_on_to inside) in
      let at : first + (c - first) ≡ c = omega arith in
      let size : length (drop (c - first) (take 120 (drop first line))) ≡ min 120 (length line - first) - (c - first) =
      length-drop (c - first) (take 120 (drop first line)) ∙ ap (λ n. n - (c - first)) (length-take 120 (drop first line) ∙ ap (min 120) (length-drop first line)) in
      omega (arith, size)

-- the excerpt at a place, and what stands below it
pub stands_below : (text : List ℕ) (place : ℕ) → place ≤ length text → StandsBelow text place (excerpt text place)
stands_below text place h = record {
  below = padding_below (excerpt text place);
  above = row_above (excerpt text place);
  from_place = from_place text place h;
  has_first = has_first text place h;
}
