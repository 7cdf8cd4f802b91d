-- How a written text is cut into lines and words.
use Rattle.std.proofs.Common.{◌≡◌, ℕ, zero, suc, ◌+◌, ◌<◌, ◌≤◌, Bool, true, false, not, ◌&&◌, cond, List, [], ◌∷◌, ◌++◌, length, length-append, map, append_assoc, refl, sym, ap, ◌∙◌, arith}
use Rattle.std.specs.List.{list_all, AllByRecursion, filter, flat_map}
use Rattle.std.proofs.lemmas.List.{append-nil}
use Rattle.std.proofs.lemmas.List.Folds.{list_all-append}
use Rattle.htn_model.specs.PlanWord.{is_blank}
use Rattle.plan_text.specs.Piece.{Piece, piece, pieces, with_front, is_line_feed, is_filled, is_filled_by, words_at}
use Rattle.htn_model.specs.PlanFile.{Word}
use Rattle.plan_text.specs.Written.{spaced, line_of}
use Rattle.plan_text.proofs.Cases.{when}
use Rattle.plan_text.proofs.KindLaws.{first_all}

module _ (is_cut : ℕ → Bool) where
  -- where no byte cuts, the first doesn't and no later one does
  first_clear : (b : ℕ) (bytes : List ℕ) → list_all (λ x. not (is_cut x)) (b ∷ bytes) ≡ true → (is_cut b ≡ false) × (list_all (λ x. not (is_cut x)) bytes ≡ true)
  first_clear b bytes clear = when (is_cut b)
      (λ cut. let e = rw cut at clear in absurd cc)
      (λ other. (other, rw other at clear))

  -- the piece up to a cut
  pub pieces-clear_cut : (place : ℕ) (front : List ℕ) (c : ℕ) (rest : List ℕ) → list_all (λ x. not (is_cut x)) front ≡ true → is_cut c ≡ true → pieces is_cut place (front ++ c ∷ rest) ≡ piece place front ∷ pieces is_cut (place + (length front + 1)) rest
  pieces-clear_cut place [] c rest clear cut =
      let here : place + 1 ≡ place + (0 + 1) = omega arith in
      rw (cut, here)
  pieces-clear_cut place (b ∷ front) c rest clear cut =
      let h = first_clear b front clear in
      let more = pieces-clear_cut (place + 1) front c rest h.1 cut in
      let moved : (place + 1) + (length front + 1) ≡ place + (suc (length front) + 1) = omega arith in
      rw (h.0, more, moved)

  -- the last piece
  pub pieces-clear : (place : ℕ) (front : List ℕ) → list_all (λ x. not (is_cut x)) front ≡ true → pieces is_cut place front ≡ piece place front ∷ []
  pieces-clear place [] clear = refl
  pieces-clear place (b ∷ front) clear =
      let h = first_clear b front clear in
      rw (h.0, pieces-clear (place + 1) front h.1)

-- ## Words

-- a word that cutting leaves whole
pub record IsSolid (w : Word) : Type 0 where
  pub filled : is_filled_by w ≡ true
  pub clear : list_all (λ b. not (is_blank b)) w ≡ true

-- the words of a line, parted by one space each
abbrev pub joined : List Word → List ℕ
joined [] = []
joined (w ∷ ws) = w ++ flat_map spaced ws

-- a line is its words joined, and a line feed
pub line_is : (ws : List Word) → line_of ws ≡ joined ws ++ 10 ∷ []
line_is [] = refl
line_is (w ∷ ws) = refl

-- words that are joined by spaces are cut into themselves
pub words-joined : (place : ℕ) (ws : List Word) → AllByRecursion IsSolid ws → map (λ p. p.bytes) (words_at place (joined ws)) ≡ ws
words-joined place [] solid = refl
words-joined place (w ∷ []) solid =
    let whole = pieces-clear is_blank place w solid.0.clear in
    rw (append-nil w, whole, solid.0.filled)
words-joined place (w ∷ v ∷ ws) solid =
    let cut = pieces-clear_cut is_blank place w 32 (joined (v ∷ ws)) solid.0.clear refl in
    let more = words-joined (place + (length w + 1)) (v ∷ ws) solid.1 in
    rw (cut, solid.0.filled) (ap (λ xs. w ∷ xs) more)

-- ## Lines

-- the places at which lines of these words begin
abbrev pub placed : ℕ → List (List Word) → List Piece
placed place [] = []
placed place (ws ∷ wss) = piece place (joined ws) ∷ placed (place + (length (joined ws) + 1)) wss

-- the joined words have no line feed
pub record IsInLine (ws : List Word) : Type 0 where
  pub clear : list_all (λ b. not (is_line_feed b)) (joined ws) ≡ true

-- where the text after lines of these words begins
abbrev pub after : ℕ → List (List Word) → ℕ
after place [] = place
after place (ws ∷ wss) = after (place + (length (joined ws) + 1)) wss

-- written lines are cut into themselves, each at its place
pub lines-written : (place : ℕ) (wss : List (List Word)) (rest : List ℕ) → AllByRecursion IsInLine wss → pieces is_line_feed place (flat_map line_of wss ++ rest) ≡ placed place wss ++ pieces is_line_feed (after place wss) rest
lines-written place [] rest clear = refl
lines-written place (ws ∷ wss) rest clear =
    let text : flat_map line_of (ws ∷ wss) ++ rest ≡ joined ws ++ 10 ∷ (flat_map line_of wss ++ rest) =
    ap (λ t. (t ++ flat_map line_of wss) ++ rest) (line_is ws) ∙ simp append_assoc in
    let cut = pieces-clear_cut is_line_feed place (joined ws) 10 (flat_map line_of wss ++ rest) clear.0.clear refl in
    let more = lines-written (place + (length (joined ws) + 1)) wss rest clear.1 in
    ap (pieces is_line_feed place) text ∙ cut ∙ ap (λ ps. piece place (joined ws) ∷ ps) more

-- joined lines have the places of the first, and then those after them
pub placed-append : (place : ℕ) (xs ys : List (List Word)) → placed place (xs ++ ys) ≡ placed place xs ++ placed (after place xs) ys
placed-append place [] ys = refl
placed-append place (ws ∷ xs) ys = ap (λ ps. piece place (joined ws) ∷ ps) (placed-append (place + (length (joined ws) + 1)) xs ys)

-- a test of each byte of each word is one of the line, if the space passes it
pub all-joined : (p : ℕ → Bool) (ws : List Word) → p 32 ≡ true → AllByRecursion (λ w. list_all p w ≡ true) ws → list_all p (joined ws) ≡ true
all-joined p [] space all = refl
all-joined p (w ∷ ws) space all = both p w (flat_map spaced ws) all.0 (all-spaced p ws space all.1)
  where
    both : (p : ℕ → Bool) (xs ys : List ℕ) → list_all p xs ≡ true → list_all p ys ≡ true → list_all p (xs ++ ys) ≡ true
    both p xs ys front back = list_all-append p xs ys ∙ rw (front, back)

    all-spaced : (p : ℕ → Bool) (ws : List Word) → p 32 ≡ true → AllByRecursion (λ w. list_all p w ≡ true) ws → list_all p (flat_map spaced ws) ≡ true
    all-spaced p [] space all = refl
    all-spaced p (w ∷ ws) space all = rw space (both p w (flat_map spaced ws) all.0 (all-spaced p ws space all.1))
