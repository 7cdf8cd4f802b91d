-- Lists that are kept from the last element to the first.
use Rattle.std.proofs.Common.{◌≡◌, ℕ, suc, ◌+◌, ◌≤◌, List, [], ◌∷◌, ◌++◌, length, map, take, drop, reverse, sym, ap, ap₂, ◌∙◌, append_assoc, arith}
use Rattle.std.proofs.lemmas.List.{append-nil, drop-drop, drop-map, drop_all, drop_at, length-drop, length-reverse, length-take, length-take-le, map-append, reverse-append, take-append-drop, take-map, take-take, take_at}
use Rattle.std.specs.List.{insert, remove}
use Rattle.htn_model.specs.Choice.{splice}

-- images with others in the place of one
pub map_splice : {X Y : Type 0} (f : X → Y) (i : ℕ) (others xs : List X) → map f (splice i others xs) ≡ splice i (map f others) (map f xs)
map_splice f i others xs =
    map-append f (take i xs) (others ++ drop (suc i) xs)
    ∙ ap₂ (λ l r. l ++ r) (sym (take-map f i xs)) (map-append f others (drop (suc i) xs) ∙ ap (λ l. map f others ++ l) (sym (drop-map f (suc i) xs)))

module _ {X : Type 0} where
  -- the two parts of a list, reversed
  reversed_parts : (xs : List X) (at : ℕ) → reverse xs ≡ reverse (drop at xs) ++ reverse (take at xs)
  reversed_parts xs at = ap reverse (sym (take-append-drop at xs)) ∙ reverse-append (take at xs) (drop at xs)

  -- how long the second part is
  length_rest : (xs : List X) (at count : ℕ) → at + count ≡ length xs → length (reverse (drop at xs)) ≡ count
  length_rest xs at count long = let whole = length-drop at xs in length-reverse (drop at xs) ∙ (let e : length (drop at xs) ≡ count = omega arith in e)

  -- the first elements are kept at the end
  first_kept : (xs : List X) (at count : ℕ) → at + count ≡ length xs → take count (reverse xs) ≡ reverse (drop at xs)
  first_kept xs at count long = ap (take count) (reversed_parts xs at) ∙ take_at (reverse (drop at xs)) (reverse (take at xs)) count (length_rest xs at count long)

  -- and those behind them before that
  later_kept : (xs : List X) (at count : ℕ) → at + count ≡ length xs → drop count (reverse xs) ≡ reverse (take at xs)
  later_kept xs at count long = ap (drop count) (reversed_parts xs at) ∙ drop_at (reverse (drop at xs)) (reverse (take at xs)) count (length_rest xs at count long)

  -- an element is put in
  pub inserted : (xs : List X) (at position : ℕ) (x : X) → at + position ≡ length xs → reverse (insert xs at x) ≡ insert (reverse xs) position x
  inserted xs at position x long =
      reverse-append (take at xs) (x ∷ drop at xs)
      ∙ ap (λ l. l ++ reverse (take at xs)) (reverse-append (x ∷ []) (drop at xs))
      ∙ append_assoc (reverse (drop at xs)) (x ∷ []) (reverse (take at xs))
      ∙ ap₂ (λ l r. l ++ x ∷ r) (sym (first_kept xs at position long)) (sym (later_kept xs at position long))

  -- an element is taken out
  pub removed : (xs : List X) (at position : ℕ) → suc at + position ≡ length xs → reverse (remove xs at) ≡ splice position [] (reverse xs)
  removed xs at position long =
      reverse-append (take at xs) (drop (suc at) xs)
      ∙ ap₂ (λ l r. l ++ r) (sym (first_kept xs (suc at) position long)) (sym (later_kept xs at (suc position) (let e : at + suc position ≡ length xs = omega arith in e)))

  -- what is left of the first ones without the last of them
  cut_last : (xs : List X) (at : ℕ) → remove (take (suc at) xs) at ≡ take at xs
  cut_last xs at =
      let long : length (take (suc at) xs) ≤ suc at = (let e = length-take (suc at) xs in omega arith) in
      ap₂ (λ l r. l ++ r) (take-take at (suc at) xs (omega arith)) (drop_all (suc at) (take (suc at) xs) long) ∙ append-nil (take at xs)

  -- others are put in the place of an element
  pub spliced : (old left earlier out others : List X) (at position : ℕ) → suc at + position ≡ length old → left ≡ take (suc at) old → earlier ≡ drop (suc at) old
      → out ≡ (remove left at ++ others) ++ earlier → reverse out ≡ splice position (reverse others) (reverse old)
  spliced old left earlier out others at position long l e o =
      let later : remove left at ≡ take at old = ap (λ xs. remove xs at) l ∙ cut_last old at in
      ap reverse (o ∙ ap₂ (λ xs ys. (xs ++ others) ++ ys) later e)
      ∙ reverse-append (take at old ++ others) (drop (suc at) old)
      ∙ ap (λ r. reverse (drop (suc at) old) ++ r) (reverse-append (take at old) others)
      ∙ ap₂ (λ xs ys. xs ++ (reverse others ++ ys)) (sym (first_kept old (suc at) position long))
      (sym (later_kept old at (suc position) (let same : at + suc position ≡ length old = omega arith in same)))

  -- a row of elements is taken out
  module _ (old : List X) (first count position : ℕ) (whole : first + count + position ≡ length old) where
    -- the row and what is before it in the order
    abbrev kept : List X
    kept = drop first old

    -- their lengths
    kept_length : length kept ≡ count + position
    kept_length = let e = length-drop first old in omega arith

    -- the three parts, reversed
    three_parts : reverse old ≡ reverse (drop count kept) ++ (reverse (take count kept) ++ reverse (take first old))
    three_parts =
        reversed_parts old first
        ∙ ap (λ l. l ++ reverse (take first old)) (reversed_parts kept count)
        ∙ append_assoc (reverse (drop count kept)) (reverse (take count kept)) (reverse (take first old))

    -- so many stand before the row
    before_row : length (reverse (drop count kept)) ≡ position
    before_row = length_rest kept count position (sym kept_length)

    -- the row, and what is behind it
    row_on : drop position (reverse old) ≡ reverse (take count kept) ++ reverse (take first old)
    row_on = ap (drop position) three_parts ∙ drop_at (reverse (drop count kept)) (reverse (take count kept) ++ reverse (take first old)) position before_row

    -- how long the row is
    row_length : length (reverse (take count kept)) ≡ count
    row_length = length-reverse (take count kept) ∙ length-take-le count kept (let e = kept_length in omega arith)

    -- the row that is taken out
    pub row_taken : reverse (take count (drop first old)) ≡ take count (drop position (reverse old))
    row_taken = sym (ap (take count) row_on ∙ take_at (reverse (take count kept)) (reverse (take first old)) count row_length)

    -- what is left
    pub row_left : reverse (take first old ++ drop count (drop first old)) ≡ take position (reverse old) ++ drop (position + count) (reverse old)
    row_left =
        reverse-append (take first old) (drop count kept)
        ∙ ap₂ (λ l r. l ++ r)
        (sym (ap (take position) three_parts ∙ take_at (reverse (drop count kept)) (reverse (take count kept) ++ reverse (take first old)) position before_row))
        (sym (sym (drop-drop count position (reverse old)) ∙ ap (drop count) row_on ∙ drop_at (reverse (take count kept)) (reverse (take first old)) count row_length))
