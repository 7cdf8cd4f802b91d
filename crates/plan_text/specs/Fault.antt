-- What is wrong with a text that holds no plan file, and where.
use Rattle.std.specs.Prelude.{◌≡◌, ℕ, ◌+◌, ◌<◌, ◌≤◌, true, false, List, [], ◌∷◌, ◌++◌, length, Some, None, ⊤}
use Rattle.std.specs.List.{list_all, flat_map}
use Rattle.plan_text.specs.declared.fault.PlanFault.{PlanFault}
use Rattle.plan_text.specs.declared.fault.PlanFault.TheVariants.{NoStart, NoEnd, BadLine, TwoRoots, NoRoot, NumberTooLarge, NotAscii, TooLong, OutOfMemory}
use Rattle.plan_text.specs.Piece.{Piece, max_bytes, lines, words}
use Rattle.plan_text.specs.Line.{LineKind, roots, IsOfKind, IsLegal, AreLines, is_legal, is_small, numbers_of, root_lists_of}
use Rattle.plan_text.specs.FileText.{after_start, before_end, body}

-- no line is the start marker
pub record LacksStart (text : List ℕ) : Type 0 where
  pub short : length text ≤ max_bytes
  pub no_start : after_start (lines text) ≡ None

-- no line after the start marker is the end marker
pub record LacksEnd (text : List ℕ) : Type 0 where
  pub short : length text ≤ max_bytes
  pub after : List Piece
  pub start : after_start (lines text) ≡ Some after
  pub no_end : before_end after ≡ None

-- the byte at the place is neither a blank nor printable, and is the line's first such byte
pub record HasIllegalByte (place : ℕ) (line : Piece) : Type 0 where
  pub front : List ℕ
  pub byte : ℕ
  pub back : List ℕ
  pub whole : line.bytes ≡ front ++ byte ∷ back
  pub legal : list_all is_legal front ≡ true
  pub illegal : is_legal byte ≡ false
  pub place_is : place ≡ line.place + length front

-- the line is of no kind
pub record IsBadLine (place : ℕ) (line : Piece) : Type 0 where
  pub legal : IsLegal line
  pub no_kind : (kind : LineKind) → IsOfKind (words line) kind → ⊥
  pub place_is : place ≡ line.place

-- the line names roots, and so did a line before it
pub record IsSecondRoots (place : ℕ) (root_lists : List (List ℕ)) (line : Piece) : Type 0 where
  pub legal : IsLegal line
  pub numbers : List Piece
  pub of_kind : IsOfKind (words line) (roots numbers)
  pub before : 0 < length root_lists
  pub place_is : place ≡ line.place

-- the word at the place is the first of these numbers that fits no id
pub record IsFirstLarge (place : ℕ) (numbers : List Piece) : Type 0 where
  pub front : List Piece
  pub word : Piece
  pub back : List Piece
  pub whole : numbers ≡ front ++ word ∷ back
  pub small : list_all is_small front ≡ true
  pub large : is_small word ≡ false
  pub place_is : place ≡ word.place

-- the line has a kind, and one of its numbers fits no id
pub record HasLargeNumber (place : ℕ) (line : Piece) : Type 0 where
  pub legal : IsLegal line
  pub kind : LineKind
  pub of_kind : IsOfKind (words line) kind
  pub large : IsFirstLarge place (numbers_of kind)

-- the line has the fault, after lines that name these lists of roots
abbrev pub IsFaultOf : PlanFault → List (List ℕ) → Piece → Type 0
IsFaultOf NoStart root_lists line = ⊥
IsFaultOf NoEnd root_lists line = ⊥
IsFaultOf (BadLine place) root_lists line = IsBadLine place line
IsFaultOf (TwoRoots place) root_lists line = IsSecondRoots place root_lists line
IsFaultOf NoRoot root_lists line = ⊥
IsFaultOf (NumberTooLarge place) root_lists line = HasLargeNumber place line
IsFaultOf (NotAscii place) root_lists line = HasIllegalByte place line
IsFaultOf (TooLong place) root_lists line = ⊥
IsFaultOf OutOfMemory root_lists line = ⊤

-- one of the lines has the fault, and nothing is wrong with the lines before it
pub record HasFaultyLine (between : List Piece) (fault : PlanFault) : Type 0 where
  pub front : List Piece
  pub line : Piece
  pub back : List Piece
  pub whole : between ≡ front ++ line ∷ back
  pub kinds : List LineKind
  pub each : AreLines front kinds
  pub faulty : IsFaultOf fault (flat_map root_lists_of kinds) line

-- nothing is wrong with the lines, and none of them names the roots
pub record NamesNoRoots (between : List Piece) : Type 0 where
  pub kinds : List LineKind
  pub each : AreLines between kinds
  pub no_roots : flat_map root_lists_of kinds ≡ []

-- the lines have the fault
abbrev pub IsFaultyBody : PlanFault → List Piece → Type 0
IsFaultyBody NoStart between = ⊥
IsFaultyBody NoEnd between = ⊥
IsFaultyBody (BadLine place) between = HasFaultyLine between (BadLine place)
IsFaultyBody (TwoRoots place) between = HasFaultyLine between (TwoRoots place)
IsFaultyBody NoRoot between = NamesNoRoots between
IsFaultyBody (NumberTooLarge place) between = HasFaultyLine between (NumberTooLarge place)
IsFaultyBody (NotAscii place) between = HasFaultyLine between (NotAscii place)
IsFaultyBody (TooLong place) between = ⊥
IsFaultyBody OutOfMemory between = ⊤

-- the lines between the markers have the fault
pub record IsFaulty (text : List ℕ) (fault : PlanFault) : Type 0 where
  pub short : length text ≤ max_bytes
  pub between : List Piece
  pub body_is : body text ≡ Some between
  pub faulty : IsFaultyBody fault between

-- the text has the fault, at its place
abbrev pub FaultAt : PlanFault → List ℕ → Type 0
FaultAt NoStart text = LacksStart text
FaultAt NoEnd text = LacksEnd text
FaultAt (BadLine place) text = IsFaulty text (BadLine place)
FaultAt (TwoRoots place) text = IsFaulty text (TwoRoots place)
FaultAt NoRoot text = IsFaulty text NoRoot
FaultAt (NumberTooLarge place) text = IsFaulty text (NumberTooLarge place)
FaultAt (NotAscii place) text = IsFaulty text (NotAscii place)
FaultAt (TooLong place) text = (max_bytes < length text) × (place ≡ max_bytes)
FaultAt OutOfMemory text = ⊤
