-- The slots of the pieces, laid end to end.
use Rattle.std.proofs.Common.{◌≡◌, ℕ, zero, suc, ◌+◌, ◌*◌, ◌<◌, ◌≤◌, min, Option, Some, IfSome, IsSome, Vec, List, [], ◌∷◌, ◌++◌, length, get_or, map, set, slice_index_or, Contains, ◌⊎◌, inl, inr, ⊎_elim, length-set, get_or-set_same, get_or-set_other, refl, sym, ap, ◌∙◌, subst, arith, add-mul, one-mul}
use Rattle.std.specs.declared.alloc.Global.{Global}
use mathlib.Core.Logic.{dite}
use native.Mathlib.Decide.{ℕ_discrete}
use Rattle.word_machine.specs.declared.piece.Piece.{Piece}
use Rattle.word_machine.specs.Level.{AreSuccessors}
use Rattle.word_machine.specs.Workers.{piece_last, IsWholePiece, HoldsPieces, IsFullAt}
use Rattle.word_machine.proofs.PieceRanks.{both_ranges}

module _ {S : Type 0} (has_successors : ℕ → List S → Type 0) (first last size : ℕ) where
  -- the slots from number n on hold the successors of their pieces
  abbrev pub HoldsFrom : ℕ → List (Option (Vec S Global)) → Type 0
  HoldsFrom n slots = (k : ℕ) (d : Option (Vec S Global)) → k < length slots → IfSome (get_or slots k d) (λ made. IsWholePiece has_successors first last size (n + k) made.items)

  -- slots that hold their pieces hold them from the first on
  pub from_start : (slots : List (Option (Vec S Global))) → HoldsPieces has_successors first last size slots → HoldsFrom 0 slots
  from_start slots held k d below =
      let same : k ≡ 0 + k = omega arith in
      subst (λ (m : ℕ). IfSome (get_or slots k d) (λ made. IsWholePiece has_successors first last size m made.items)) same (held k d below)

  -- the first slot holds the whole piece of its number
  pub holds_first : (n : ℕ) (made : Vec S Global) (slots rest : List (Option (Vec S Global))) → slots ≡ Some made ∷ rest → HoldsFrom n slots → IsWholePiece has_successors first last size n made.items
  holds_first n made slots rest is holds =
      let here = subst (HoldsFrom n) is holds 0 (Some made) (omega arith) in
      let same : n + 0 ≡ n = omega arith in
      subst (λ (m : ℕ). IsWholePiece has_successors first last size m made.items) same here

  -- the slots after the first hold the pieces after its number
  pub holds_rest : (n : ℕ) (slot : Option (Vec S Global)) (slots rest : List (Option (Vec S Global))) → slots ≡ slot ∷ rest → HoldsFrom n slots → HoldsFrom (n + 1) rest
  holds_rest n slot slots rest is holds k d below =
      let next = subst (HoldsFrom n) is holds (suc k) d (omega arith) in
      let same : n + suc k ≡ (n + 1) + k = omega arith in
      subst (λ (m : ℕ). IfSome (get_or rest k d) (λ made. IsWholePiece has_successors first last size m made.items)) same next

  -- the successors of the first n pieces
  abbrev pub AreOfPieces : ℕ → List S → Type 0
  AreOfPieces n successors = AreSuccessors has_successors first (min (first + n * size) last) successors

  -- the successors of no pieces
  pub of_none : (successors : List S) → first ≤ last → AreSuccessors has_successors first first successors → AreOfPieces 0 successors
  of_none successors ordered all = let at : first ≡ min (first + 0 * size) last = omega arith in subst (λ m. AreSuccessors has_successors first m successors) at all

  -- the successors of all pieces are those of the whole level
  pub of_all : (n : ℕ) (successors : List S) → last ≤ first + n * size → AreOfPieces n successors → AreSuccessors has_successors first last successors
  of_all n successors cover all = let at : min (first + n * size) last ≡ last = omega arith in subst (λ m. AreSuccessors has_successors first m successors) at all

  -- the successors of one more piece are put at the end
  pub of_one_more : (n : ℕ) (all all' more : List S) → AreOfPieces n all → IsWholePiece has_successors first last size n more → all' ≡ all ++ more → AreOfPieces (n + 1) all'
  of_one_more n all all' more so_far piece is =
      let next : n * size + size ≡ (n + 1) * size = sym (add-mul n 1 size ∙ ap (λ (k : ℕ). n * size + k) (one-mul size)) in
      let within = piece.count in
      let middle : min (first + n * size) last ≡ first + n * size = omega arith in
      let end : piece_last first last size n ≡ min (first + (n + 1) * size) last = omega arith in
      subst (λ xs. AreSuccessors has_successors first (min (first + (n + 1) * size) last) xs) (sym is)
      (subst (λ m. AreSuccessors has_successors first m (all ++ more)) end (both_ranges has_successors first (first + n * size) (piece_last first last size n) all more (subst (λ m. AreSuccessors has_successors first m all) middle so_far) piece))

  -- one more slot is filled
  pub holds_set : (slots : List (Option (Vec S Global))) (number : ℕ) (made : Vec S Global) → number < length slots → IsWholePiece has_successors first last size number made.items
      → HoldsPieces has_successors first last size slots → HoldsPieces has_successors first last size (set slots number (Some made))
  holds_set slots number made inside right holds k d below = dite (ℕ_discrete number k)
      (λ e. subst (λ m. IfSome (get_or (set slots number (Some made)) m d) (λ v. IsWholePiece has_successors first last size m v.items)) e
      (subst (λ o. IfSome o (λ v. IsWholePiece has_successors first last size number v.items)) (sym (get_or-set_same slots number (Some made) d inside)) right))
      (λ apart. subst (λ o. IfSome o (λ v. IsWholePiece has_successors first last size k v.items)) (sym (get_or-set_other slots number k (Some made) d (λ e. apart (sym e))))
      (let same = length-set slots number (Some made) in holds k d (omega arith)))

-- each of these numbers has its slot filled, or is still to come
abbrev pub FullOrLeft : {X S F : Type 0} → List ℕ → List (Piece S F) → List (Option X) → Type 0
FullOrLeft {X} numbers rest slots = (n : ℕ) (d : Option X) → Contains numbers n → IsSome (slice_index_or slots n d) ⊎ Contains (map (λ p. p.number) rest) n

-- a piece that goes to its slot leaves each number full or still to come
pub full_set : {X S F : Type 0} (numbers : List ℕ) (pieces rest : List (Piece S F)) (piece : Piece S F) (slots : List (Option X)) (made : X) → pieces ≡ piece ∷ rest → piece.number < length slots
    → FullOrLeft numbers pieces slots → FullOrLeft numbers rest (set slots piece.number (Some made))
full_set {X = X} {S = S} {F = F} numbers pieces rest piece slots made is inside full n d stands = dite (ℕ_discrete piece.number n)
    (λ e. inl (subst (λ m. IsSome (get_or (set slots piece.number (Some made)) m d)) e (subst IsSome (sym (get_or-set_same slots piece.number (Some made) d inside)) refl)))
    (λ apart. ⊎_elim
    (λ was. inl (subst IsSome (sym (get_or-set_other slots piece.number n (Some made) d (λ e. apart (sym e)))) was))
    (λ left. ⊎_elim (λ (same : piece.number ≡ n). absurd (apart same)) (λ later. inr later) (first_or_rest piece.number (map (λ p. p.number) rest) n (subst (λ l. Contains (map (λ (p : Piece S F). p.number) l) n) is left)))
    (full n d stands))
  where
    first_or_rest : (x : ℕ) (xs : List ℕ) (y : ℕ) → Contains (x ∷ xs) y → (x ≡ y) ⊎ Contains xs y
    first_or_rest x xs y (zero, below, same) = inl same
    first_or_rest x xs y (suc k, below, same) = inr (k, omega arith, same)

-- where no piece is left, each of the slots is full
pub full_all : {X : Type 0} (S F : Type 0) (numbers : List ℕ) (slots : List (Option X)) → FullOrLeft {S = S} {F = F} numbers [] slots → IsFullAt numbers slots
full_all S F numbers slots full n d stands = ⊎_elim (λ here. here) (λ left. absurd (omega (arith, left.1))) (full n d stands)
