-- The one text as which a plan file is written.
use Rattle.std.specs.Prelude.{ℕ, List, [], ◌∷◌, ◌++◌, map, codes}
use Rattle.std.specs.List.{flat_map}
use Rattle.std.specs.Fmt.{decimal}
use Rattle.htn_model.specs.PlanFile.{Word, ActionLine, DecompositionLine, PlanFile}
use Rattle.htn_model.specs.PlanWord.{arrow}
use Rattle.plan_text.specs.FileText.{start_marker, end_marker}

-- a word with a space before it
abbrev pub spaced : Word → List ℕ
spaced w = 32 ∷ w

-- words separated by one space each, and a line feed
abbrev pub line_of : List Word → List ℕ
line_of [] = 10 ∷ []
line_of (w ∷ ws) = w ++ flat_map spaced ws ++ 10 ∷ []

-- the words of an action line
abbrev pub action_words : ActionLine → List Word
action_words line = decimal line.id ∷ line.name ∷ line.arguments

-- the words of the root line
abbrev pub root_words : List ℕ → List Word
root_words ids = codes "root" ∷ map decimal ids

-- the words of a decomposition line
abbrev pub decomposition_words : DecompositionLine → List Word
decomposition_words line = decimal line.id ∷ line.task ∷ line.arguments ++ arrow ∷ line.method ∷ map decimal line.children

-- the words of each line: the start marker, the actions, the roots, the decompositions, the end marker
abbrev pub written_lines : PlanFile → List (List Word)
written_lines file =
    (start_marker ∷ []) ∷ map action_words file.actions
    ++ root_words file.roots ∷ map decomposition_words file.decompositions
    ++ (end_marker ∷ []) ∷ []

-- all lines of a plan file, each with its line feed
abbrev pub written : PlanFile → List ℕ
written file = flat_map line_of (written_lines file)
