-- The kinds of line between the markers, and the lines of the file that each gives.
use Rattle.std.specs.Prelude.{◌≡◌, ℕ, ◌^◌, ◌<◌, Bool, true, false, not, ◌||◌, nat_lt, List, [], ◌∷◌, ◌++◌, map, codes, ⊤}
use Rattle.std.specs.List.{list_all, flat_map}
use Rattle.std.specs.Char.{is_ascii_digit, to_ascii_lowercase}
use Rattle.std.specs.Str.{bytes_eq, str_eq_ignore_ascii_case}
use Rattle.std.specs.Str.Parse.{digits_value}
use Rattle.htn_model.specs.PlanWord.{is_blank, is_printable}
use Rattle.plan_text.specs.Piece.{Piece, words}
use Rattle.htn_model.specs.PlanFile.{Word, ActionLine, DecompositionLine}
use Rattle.htn_model.specs.PlanWord.{arrow}

-- a kind of line, with the words that have a content
pub data LineKind : Type 0 where
  blank : LineKind
  roots : (numbers : List Piece) → LineKind
  action : (id name : Piece) (arguments : List Piece) → LineKind
  decomposition : (id task : Piece) (arguments : List Piece) (method : Piece) (children : List Piece) → LineKind

-- a word of digits
abbrev pub is_number : Piece → Bool
is_number w = list_all is_ascii_digit w.bytes

-- whether a word is the arrow before a method
abbrev pub is_arrow : Piece → Bool
is_arrow w = bytes_eq w.bytes arrow

-- whether a word is another than the arrow
abbrev pub is_no_arrow : Piece → Bool
is_no_arrow w = not (is_arrow w)

-- the word `root`, in any case
abbrev pub is_root : Piece → Bool
is_root w = str_eq_ignore_ascii_case w.bytes (codes "root")

-- the words of the root line: `root`, and then numbers alone
pub record IsRootsOf (words numbers : List Piece) : Type 0 where
  pub head : Piece
  pub whole : words ≡ head ∷ numbers
  pub root : is_root head ≡ true
  pub all_numbers : list_all is_number numbers ≡ true

-- the words of an action line: a number and then the action with its arguments, none of them the arrow
pub record IsActionOf (words : List Piece) (id name : Piece) (arguments : List Piece) : Type 0 where
  pub whole : words ≡ id ∷ name ∷ arguments
  pub number : is_number id ≡ true
  pub no_arrow : list_all is_no_arrow (name ∷ arguments) ≡ true

-- the words of a decomposition line: a number, a task with arguments, the arrow, a method and the numbers of children
pub record IsDecompositionOf (words : List Piece) (id task : Piece) (arguments : List Piece) (method : Piece) (children : List Piece) : Type 0 where
  pub sign : Piece
  pub whole : words ≡ (id ∷ task ∷ arguments) ++ sign ∷ method ∷ children
  pub number : is_number id ≡ true
  pub no_arrow : list_all is_no_arrow (task ∷ arguments) ≡ true
  pub arrow : is_arrow sign ≡ true
  pub one_arrow : is_no_arrow method ≡ true
  pub all_numbers : list_all is_number children ≡ true

-- the words are those of a line of this kind, however large its numbers are
abbrev pub IsOfKind : List Piece → LineKind → Type 0
IsOfKind ws blank = ws ≡ []
IsOfKind ws (roots numbers) = IsRootsOf ws numbers
IsOfKind ws (action id name arguments) = IsActionOf ws id name arguments
IsOfKind ws (decomposition id task arguments method children) = IsDecompositionOf ws id task arguments method children

-- the words of a line that are read as numbers, in the line's order
abbrev pub numbers_of : LineKind → List Piece
numbers_of blank = []
numbers_of (roots numbers) = numbers
numbers_of (action id name arguments) = id ∷ []
numbers_of (decomposition id task arguments method children) = id ∷ children

-- the number that the digits of a word spell
abbrev pub number : Piece → ℕ
number w = digits_value 10 w.bytes

-- the number fits 64 bits, as an id has to
abbrev pub is_small : Piece → Bool
is_small w = nat_lt (number w) (2 ^ 64)

-- a byte that may stand between the markers
abbrev pub is_legal : ℕ → Bool
is_legal b = is_blank b || is_printable b

-- each byte of a line is one that a plan may have
abbrev pub IsLegal : Piece → Type 0
IsLegal line = list_all is_legal line.bytes ≡ true

-- the line is one of this kind, and nothing is wrong with it by itself
pub record IsLine (line : Piece) (kind : LineKind) : Type 0 where
  pub legal : IsLegal line
  pub of_kind : IsOfKind (words line) kind
  pub small : list_all is_small (numbers_of kind) ≡ true

-- each line is of the kind at its place in the list
abbrev pub AreLines : List Piece → List LineKind → Type 0
AreLines [] [] = ⊤
AreLines [] (kind ∷ kinds) = ⊥
AreLines (line ∷ lines) [] = ⊥
AreLines (line ∷ lines) (kind ∷ kinds) = IsLine line kind × AreLines lines kinds

-- ## What a line gives

-- the letters of a word, folded to lower case
abbrev pub folded : Piece → Word
folded w = map to_ascii_lowercase w.bytes

-- the action lines that a line gives: itself or none
abbrev pub actions_of : LineKind → List ActionLine
actions_of blank = []
actions_of (roots numbers) = []
actions_of (action id name arguments) = record { id = number id; name = folded name; arguments = map folded arguments } ∷ []
actions_of (decomposition id task arguments method children) = []

-- the lists of roots that a line gives: its own or none
abbrev pub root_lists_of : LineKind → List (List ℕ)
root_lists_of blank = []
root_lists_of (roots numbers) = map number numbers ∷ []
root_lists_of (action id name arguments) = []
root_lists_of (decomposition id task arguments method children) = []

-- the decomposition lines that a line gives: itself or none
abbrev pub decompositions_of : LineKind → List DecompositionLine
decompositions_of blank = []
decompositions_of (roots numbers) = []
decompositions_of (action id name arguments) = []
decompositions_of (decomposition id task arguments method children) =
    record { id = number id; task = folded task; arguments = map folded arguments; method = folded method; children = map number children } ∷ []

-- the lines of a file that several lines give together, by kind, each kind in the order of the lines
pub record Contents : Type 0 where
  pub actions : List ActionLine
  pub root_lists : List (List ℕ)
  pub decompositions : List DecompositionLine

-- the lines of the file that these lines give, by kind, each kind in the order of the lines
abbrev pub contents_of : List LineKind → Contents
contents_of kinds = record {
  actions = flat_map actions_of kinds;
  root_lists = flat_map root_lists_of kinds;
  decompositions = flat_map decompositions_of kinds;
}
