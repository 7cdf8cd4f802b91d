-- What a line adds to what was read before it, and what is wrong with a line whose kind is known.
use Rattle.std.specs.Prelude.{◌≡◌, ℕ, ◌<◌, ◌≤◌, List, [], ◌∷◌, ◌++◌, length, Option, Some, None, ⊤}
use Rattle.std.specs.declared.alloc.Global.{Global}
use Rattle.std.specs.declared.vec.Vec.{Vec}
use Rattle.plan_text.specs.declared.fault.PlanFault.{PlanFault}
use Rattle.plan_text.specs.declared.fault.PlanFault.TheVariants.{NoStart, NoEnd, BadLine, TwoRoots, NoRoot, NumberTooLarge, NotAscii, TooLong, OutOfMemory}
use Rattle.plan_text.specs.Piece.{Piece}
use Rattle.plan_text.specs.Line.{LineKind, roots, Contents, actions_of, root_lists_of, decompositions_of, numbers_of, AreLines, contents_of}
use Rattle.plan_text.specs.Fault.{IsFirstLarge, HasIllegalByte}

-- the lists of roots that were read: one or none
abbrev pub root_lists_in : Option (Vec ℕ Global) → List (List ℕ)
root_lists_in None = []
root_lists_in (Some ids) = ids.items ∷ []

-- what was read before with what a line gives after it
abbrev pub with_line : Contents → LineKind → Contents
with_line c kind = record {
  actions = c.actions ++ actions_of kind;
  root_lists = c.root_lists ++ root_lists_of kind;
  decompositions = c.decompositions ++ decompositions_of kind;
}

-- one of the numbers fits no id, or memory ran out
abbrev pub IsNumberFault : PlanFault → List Piece → Type 0
IsNumberFault NoStart numbers = ⊥
IsNumberFault NoEnd numbers = ⊥
IsNumberFault (BadLine place) numbers = ⊥
IsNumberFault (TwoRoots place) numbers = ⊥
IsNumberFault NoRoot numbers = ⊥
IsNumberFault (NumberTooLarge place) numbers = IsFirstLarge place numbers
IsNumberFault (NotAscii place) numbers = ⊥
IsNumberFault (TooLong place) numbers = ⊥
IsNumberFault OutOfMemory numbers = ⊤

-- the line has a byte that may not stand in it
abbrev pub IsByteFault : PlanFault → Piece → Type 0
IsByteFault NoStart line = ⊥
IsByteFault NoEnd line = ⊥
IsByteFault (BadLine place) line = ⊥
IsByteFault (TwoRoots place) line = ⊥
IsByteFault NoRoot line = ⊥
IsByteFault (NumberTooLarge place) line = ⊥
IsByteFault (NotAscii place) line = HasIllegalByte place line
IsByteFault (TooLong place) line = ⊥
IsByteFault OutOfMemory line = ⊥

-- the line names roots after a line that did
pub record NamesRootsAgain (line_place place : ℕ) (root_lists : List (List ℕ)) (kind : LineKind) : Type 0 where
  pub numbers : List Piece
  pub roots_again : kind ≡ roots numbers
  pub before : 0 < length root_lists
  pub place_is : place ≡ line_place

-- what is wrong with a line of this kind, which begins at the place, after lines that name these lists of roots
abbrev pub IsKindFault : PlanFault → ℕ → List (List ℕ) → LineKind → Type 0
IsKindFault NoStart line_place root_lists kind = ⊥
IsKindFault NoEnd line_place root_lists kind = ⊥
IsKindFault (BadLine place) line_place root_lists kind = ⊥
IsKindFault (TwoRoots place) line_place root_lists kind = NamesRootsAgain line_place place root_lists kind
IsKindFault NoRoot line_place root_lists kind = ⊥
IsKindFault (NumberTooLarge place) line_place root_lists kind = IsFirstLarge place (numbers_of kind)
IsKindFault (NotAscii place) line_place root_lists kind = ⊥
IsKindFault (TooLong place) line_place root_lists kind = ⊥
IsKindFault OutOfMemory line_place root_lists kind = ⊤

-- the lines were read: each is a line of some kind, at most one names the roots, and this is what they give
pub record IsRead (between : List Piece) (contents : Contents) : Type 0 where
  pub kinds : List LineKind
  pub each : AreLines between kinds
  pub contents_is : contents ≡ contents_of kinds
  pub once : length contents.root_lists ≤ 1
