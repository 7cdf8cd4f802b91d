-- The plan file that a text holds.
use Rattle.std.specs.Prelude.{◌≡◌, ℕ, ◌≤◌, Bool, false, if◌then◌else◌, List, [], ◌∷◌, length, codes, Option, Some, None}
use Rattle.std.specs.Option.{option_map, option_and_then}
use Rattle.std.specs.Str.{bytes_eq}
use Rattle.plan_text.specs.Piece.{Piece, max_bytes, lines, words}
use Rattle.plan_text.specs.Line.{LineKind, AreLines, contents_of}
use Rattle.htn_model.specs.PlanFile.{Word, PlanFile}

-- the word of the line before a plan
abbrev pub start_marker : Word
start_marker = codes "==>"

-- the word of the line after a plan
abbrev pub end_marker : Word
end_marker = codes "<=="

-- whether a line has this word and no other
abbrev pub is_only : Word → List Piece → Bool
is_only w [] = false
is_only w (p ∷ []) = bytes_eq p.bytes w
is_only w (p ∷ q ∷ ps) = false

-- the marker is the line's one word
abbrev pub is_marker : Word → Piece → Bool
is_marker marker line = is_only marker (words line)

-- the lines after the first that is the start marker
abbrev pub after_start : List Piece → Option (List Piece)
after_start [] = None
after_start (line ∷ lines) = if is_marker start_marker line then Some lines else after_start lines

-- the lines before the first that is the end marker
abbrev pub before_end : List Piece → Option (List Piece)
before_end [] = None
before_end (line ∷ lines) = if is_marker end_marker line then Some [] else option_map (λ ls. line ∷ ls) (before_end lines)

-- the lines between the markers
abbrev pub body : List ℕ → Option (List Piece)
body text = option_and_then before_end (after_start (lines text))

-- The lines hold the file: each is a line of some kind, and exactly one names the roots.
pub record HoldsFile (file : PlanFile) (between : List Piece) : Type 0 where
  pub kinds : List LineKind
  pub each : AreLines between kinds
  pub contents : contents_of kinds ≡ record { actions = file.actions; root_lists = file.roots ∷ []; decompositions = file.decompositions }

-- The text holds the file: it is not too long, and the lines between its markers hold the file.
pub record FileText (file : PlanFile) (text : List ℕ) : Type 0 where
  pub short : length text ≤ max_bytes
  pub between : List Piece
  pub body_is : body text ≡ Some between
  pub holds : HoldsFile file between
