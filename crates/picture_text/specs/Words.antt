-- Words as they are shown.
use Rattle.std.specs.Prelude.{ℕ, Bool, false, nat_eq, if◌then◌else◌, List, ◌∷◌, ◌++◌, map, Option, Some, None}
use Rattle.std.specs.List.{flat_map}
use Rattle.htn_model.specs.PlanFile.{Word}
use Rattle.diagnostics.specs.Shown.{shown}
use Rattle.picture_text.specs.declared.caption.Mark.{Mark}

-- a word after a blank
abbrev pub spaced : Word → List ℕ
spaced word = 32 ∷ map shown word

-- a name with its arguments
abbrev pub task_words : Word → List Word → List ℕ
task_words name arguments = map shown name ++ flat_map spaced arguments

-- the mark, if it is that of the line with an id
abbrev pub mark_of : Option Mark → ℕ → Option Mark
mark_of None id = None
mark_of (Some mark) id = if nat_eq mark.id id then Some mark else None

-- whether the line with an id is marked
abbrev pub is_marked : Option Mark → ℕ → Bool
is_marked None id = false
is_marked (Some mark) id = nat_eq mark.id id
