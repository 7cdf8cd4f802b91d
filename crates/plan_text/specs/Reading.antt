-- The kind of a line, found from its words from the left.
use Rattle.std.specs.Prelude.{ℕ, ◌+◌, Bool, not, ◌||◌, ◌&&◌, if◌then◌else◌, List, [], ◌∷◌, take, drop, Option, Some, None, position}
use Rattle.std.specs.List.{list_all}
use Rattle.plan_text.specs.Piece.{Piece}
use Rattle.plan_text.specs.Line.{LineKind, blank, roots, action, decomposition, is_number, is_arrow, is_no_arrow, is_root}

-- the words after the arrow are a method and its children
abbrev pub decomposition_kind : Piece → Piece → List Piece → List Piece → Option LineKind
decomposition_kind id task arguments [] = None
decomposition_kind id task arguments (method ∷ children) =
    if is_no_arrow method && list_all is_number children then Some (decomposition id task arguments method children) else None

-- the kind of a line after its number and name, by where the arrow stands
abbrev pub cut_kind : Piece → Piece → List Piece → Option ℕ → Option LineKind
cut_kind id name rest None = Some (action id name rest)
cut_kind id name rest (Some n) = decomposition_kind id name (take n rest) (drop (n + 1) rest)

-- the kind of a line that begins with a number: none without a name
abbrev pub named_kind : Piece → List Piece → Option LineKind
named_kind id [] = None
named_kind id (name ∷ rest) = if is_arrow name then None else cut_kind id name rest (position is_arrow rest)

-- the kind of a line by its first word: nothing, `root` or a number
unfoldable pub kind : List Piece → Option LineKind
kind [] = Some blank
kind (first ∷ rest) =
    if is_root first then (if list_all is_number rest then Some (roots rest) else None)
    else (if is_number first then named_kind first rest else None)
