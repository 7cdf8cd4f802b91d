-- The results of workers.
use Rattle.std.specs.Prelude.{◌≡◌, ℕ, ◌+◌, ◌*◌, ◌<◌, ◌≤◌, min, true, Option, IfSome, IsSome, Vec, slice_index_or, List, [], ◌∷◌, ◌++◌, length, map, All, Contains, flat_map}
use Rattle.std.specs.declared.alloc.Global.{Global}
use Rattle.word_machine.specs.Desk.{DeskState, PassState}
use Rattle.word_machine.specs.declared.in_order.Expanded.TheVariants.{Whole, Done}
use Rattle.word_machine.specs.declared.piece.Outcome.{Outcome}
use Rattle.word_machine.specs.declared.piece.Outcome.TheVariants.{Ran, Skipped}
use Rattle.word_machine.specs.declared.piece.Piece.{Piece}
use Rattle.word_machine.specs.declared.worker.Worked.{Worked}
use Rattle.word_machine.specs.Level.{AreSuccessors, IsExpanded}

-- each rank from `first` on and below `last` can be expanded
abbrev pub CanExpandAll : (ℕ → Type 0) → (first last : ℕ) → Type 0
CanExpandAll can_expand first last = (rank : ℕ) → first ≤ rank → rank < last → can_expand rank

-- a level is cut into pieces of `size` ranks, the last one possibly shorter; this is the first rank of the piece of a
-- number
abbrev pub piece_first : (first size number : ℕ) → ℕ
piece_first first size number = first + number * size

-- the rank after the last one of a piece: `size` ranks after its first, and at most the end of the level
abbrev pub piece_last : (first last size number : ℕ) → ℕ
piece_last first last size number = min (first + number * size + size) last

-- each of the first `count` pieces has a rank of the level
abbrev pub HasPieces : (first last size count : ℕ) → Type 0
HasPieces first last size count = (number : ℕ) → number < count → piece_first first size number < last

-- the rank with a done successor that was found in a piece, if any
abbrev pub places_of : {S F : Type 0} → Outcome S F → List ℕ
places_of (Ran (Whole successors)) = []
places_of (Ran (Done rank finish)) = rank ∷ []
places_of (Skipped skip) = []

-- what taking a piece does to a pass: it reports the rank that was found, and may look
pub record TakesPiece {S F : Type 0} (old new : PassState) (outcome : Outcome S F) : Type 0 where
  pub desk : new.desk ≡ old.desk
  pub ended : new.ended ≡ old.ended
  pub drawn : new.drawn ≡ old.drawn
  pub reported : new.reported ≡ old.reported ++ places_of outcome
  pub seen : (more : List ℕ) × (new.seen ≡ old.seen ++ more)

module _ {S F : Type 0} (has_successors : ℕ → List S → Type 0) (finishes : ℕ → F → Type 0) (first last size : ℕ) where
  -- a piece that ran was expanded; one that was skipped lies above a rank that was seen
  abbrev pub IsOutcome : ℕ → List ℕ → Outcome S F → Type 0
  IsOutcome number seen (Ran expanded) = IsExpanded has_successors finishes (piece_first first size number) (piece_last first last size number) expanded
  IsOutcome number seen (Skipped skip) = Contains seen skip.seen × (skip.first ≡ piece_first first size number)

  -- there is one result for each number that was drawn; the ranks found were reported and no others; each result is
  -- right
  pub record Brings (drawn reported seen : List ℕ) (pieces : List (Piece S F)) : Type 0 where
    pub numbers : map (λ p. p.number) pieces ≡ drawn
    pub places : flat_map (λ p. places_of p.outcome) pieces ≡ reported
    pub outcomes : All (λ p. IsOutcome p.number seen p.outcome) pieces

  -- the result of a worker: its pass has ended, and the pieces are those of its pass
  pub record IsWorked (desk : DeskState) (worked : Worked S F) : Type 0 where
    pub desk_is : worked.pass.desk ≡ desk
    pub ended : worked.pass.ended ≡ true
    pub brings : Brings worked.pass.drawn worked.pass.reported worked.pass.seen worked.pieces.items

module _ {S : Type 0} (has_successors : ℕ → List S → Type 0) (first last size : ℕ) where
  -- the successors of the whole piece of this number
  abbrev pub IsWholePiece : ℕ → List S → Type 0
  IsWholePiece number successors = AreSuccessors has_successors (piece_first first size number) (piece_last first last size number) successors

  -- each slot that is full holds the successors of the piece of its number
  abbrev pub HoldsPieces : List (Option (Vec S Global)) → Type 0
  HoldsPieces slots = (k : ℕ) (d : Option (Vec S Global)) → k < length slots → IfSome (slice_index_or slots k d) (λ successors. IsWholePiece k successors.items)

module _ {S F : Type 0} (has_successors : ℕ → List S → Type 0) (first last size : ℕ) where
  -- a piece that was expanded to its end
  abbrev pub IsWholeOutcome : ℕ → Outcome S F → Type 0
  IsWholeOutcome number (Ran (Whole successors)) = IsWholePiece has_successors first last size number successors.items
  IsWholeOutcome number (Ran (Done rank finish)) = ⊥
  IsWholeOutcome number (Skipped skip) = ⊥

  -- a piece whose outcome is that it was expanded to its end
  abbrev pub IsWhole : Piece S F → Type 0
  IsWhole p = IsWholeOutcome p.number p.outcome

-- for each number below n there is a piece
abbrev pub HasEachPiece : {S F : Type 0} → ℕ → List (Piece S F) → Type 0
HasEachPiece n pieces = (number : ℕ) → number < n → Contains (map (λ p. p.number) pieces) number

-- the slots of these numbers are full
abbrev pub IsFullAt : {X : Type 0} → List ℕ → List (Option X) → Type 0
IsFullAt {X} numbers slots = (n : ℕ) (d : Option X) → Contains numbers n → IsSome (slice_index_or slots n d)
