-- How a text is cut into pieces, from the left.
use Rattle.std.proofs.Common.{◌≡◌, ℕ, zero, suc, ◌+◌, ◌<◌, ◌≤◌, Bool, true, false, not, cond, List, [], ◌∷◌, ◌++◌, length, refl, sym, ap, ◌∙◌, arith, add-one, one-add, add-zero, take, drop, get_or, drop-cons}
use Rattle.std.specs.List.{position_or_len, prefix_len, list_all, filter}
use Rattle.std.proofs.lemmas.List.Sums.{passes_at_first}
use Rattle.htn_model.specs.PlanWord.{is_blank}
use Rattle.plan_text.specs.Piece.{is_filled_by, Piece, piece, pieces, with_front, is_filled, words_at}
use Rattle.plan_text.proofs.Cases.{when}

-- the pieces up to the first cut
module _ (is_cut : ℕ → Bool) where
  -- up to a cut stands the first piece, and the pieces of the rest follow
  pub pieces-cut : (place : ℕ) (bytes : List ℕ) (n : ℕ) → n ≡ position_or_len is_cut bytes → n < length bytes → pieces is_cut place bytes ≡ piece place (take n bytes) ∷ pieces is_cut (place + (n + 1)) (drop (n + 1) bytes)
  pieces-cut place [] n e h = absurd (omega arith)
  pieces-cut place (b ∷ bytes) n e h = when (is_cut b)
      (λ cut. let here : n ≡ 0 = rw cut at e in rw (here, cut))
      (λ clear.
      let m : ℕ = position_or_len is_cut bytes in
      let len : n ≡ suc m = e ∙ rw (clear, one-add) in
      let inside : m < length bytes = omega arith in
      let rest = pieces-cut (place + 1) bytes m refl inside in
      let moved : (place + 1) + (m + 1) ≡ place + (suc m + 1) = omega arith in
      rw (len, clear, rest, moved, add-one (suc m), add-one m))

  -- without a cut the text is one piece
  pub pieces-whole : (place : ℕ) (bytes : List ℕ) → length bytes ≤ position_or_len is_cut bytes → pieces is_cut place bytes ≡ piece place bytes ∷ []
  pieces-whole place [] h = refl
  pieces-whole place (b ∷ bytes) h = when (is_cut b)
      (λ cut. absurd (let n : position_or_len is_cut (b ∷ bytes) ≡ 0 = rw cut in omega arith))
      (λ clear.
      let len : position_or_len is_cut (b ∷ bytes) ≡ 1 + position_or_len is_cut bytes = rw clear in
      rw (clear, pieces-whole (place + 1) bytes (omega arith)))

  -- there is at most one piece more than there are bytes
  pub length-pieces : (place : ℕ) (bytes : List ℕ) → length (pieces is_cut place bytes) ≤ length bytes + 1
  length-pieces place [] = omega arith
  length-pieces place (b ∷ bytes) = when (is_cut b)
      (λ cut. rw cut (let more = length-pieces (place + 1) bytes in omega arith))
      (λ clear. rw clear (let more = length-pieces (place + 1) bytes in length-front b (pieces is_cut (place + 1) bytes) more))
    where
      length-front : (b : ℕ) (ps : List Piece) → length ps ≤ length bytes + 1 → length (with_front place b ps) ≤ suc (length bytes) + 1
      length-front b [] h = omega arith
      length-front b (p ∷ ps) h = omega arith

-- blanks at the front
pub words_at-skip : (place : ℕ) (bytes : List ℕ) (n : ℕ) → n ≡ position_or_len (λ b. not (is_blank b)) bytes → words_at place bytes ≡ words_at (place + n) (drop n bytes)
words_at-skip place [] n e = rw e
words_at-skip place (b ∷ bytes) n e = when (is_blank b)
    (λ blank.
    let m : ℕ = position_or_len (λ b. not (is_blank b)) bytes in
    let len : n ≡ suc m = e ∙ rw (blank, one-add) in
    let moved : (place + 1) + m ≡ place + suc m = omega arith in
    rw (len, blank, words_at-skip (place + 1) bytes m refl, moved))
    (λ filled. let here : n ≡ 0 = rw filled at e in rw (here, add-zero))

-- nothing but blanks
pub words_at-none : (place : ℕ) (bytes : List ℕ) → length bytes ≤ position_or_len (λ b. not (is_blank b)) bytes → words_at place bytes ≡ []
words_at-none place [] h = refl
words_at-none place (b ∷ bytes) h = when (is_blank b)
    (λ blank.
    let len : position_or_len (λ b. not (is_blank b)) (b ∷ bytes) ≡ 1 + position_or_len (λ b. not (is_blank b)) bytes = rw blank in
    rw (blank, words_at-none (place + 1) bytes (omega arith)))
    (λ filled. absurd (let n : position_or_len (λ b. not (is_blank b)) (b ∷ bytes) ≡ 0 = rw filled in omega arith))

-- a front of some length is filled
filled_front : (bytes : List ℕ) (n : ℕ) → n < length bytes → 0 < n → is_filled_by (take n bytes) ≡ true
filled_front [] n inside some = absurd (omega arith)
filled_front (b ∷ bytes) zero inside some = absurd (omega arith)
filled_front (b ∷ bytes) (suc n) inside some = refl

-- a cut at the front
blank_front : (place : ℕ) (bytes : List ℕ) (n : ℕ) → n ≡ position_or_len is_blank bytes → n < length bytes → words_at (place + n) (drop n bytes) ≡ filter is_filled (pieces is_blank (place + (n + 1)) (drop (n + 1) bytes))
blank_front place bytes n e inside =
    let blank : is_blank (get_or bytes n 0) ≡ true = rw e (passes_at_first is_blank bytes 0 (omega arith)) in
    let moved : (place + n) + 1 ≡ place + (n + 1) = omega arith in
    rw (add-one n, drop-cons bytes n 0, blank, moved, add-one n)

-- the word at the front
pub words_at-word : (place : ℕ) (bytes : List ℕ) (n : ℕ) → n ≡ position_or_len is_blank bytes → n < length bytes → 0 < n → words_at place bytes ≡ piece place (take n bytes) ∷ words_at (place + n) (drop n bytes)
words_at-word place bytes n e inside some =
    let cut = pieces-cut is_blank place bytes n e inside in
    let rest = blank_front place bytes n e inside in
    let filled : is_filled (piece place (take n bytes)) ≡ true = filled_front bytes n inside some in
    rw (cut, filled, rest)
