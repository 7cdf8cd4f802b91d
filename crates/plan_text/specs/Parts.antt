-- Parts of the written text.
use Rattle.std.specs.Prelude.{ℕ, List, [], ◌∷◌, ◌++◌, map}
use Rattle.std.specs.List.{flat_map}
use Rattle.std.specs.Fmt.{decimal}
use Rattle.htn_model.specs.PlanFile.{Word, ActionLine, DecompositionLine}
use Rattle.htn_model.specs.PlanWord.{arrow}
use Rattle.plan_text.specs.Written.{spaced, line_of, action_words, decomposition_words}

-- the number of a line with the name and the arguments after it
abbrev pub head_text : ℕ → Word → List Word → List ℕ
head_text id name arguments = decimal id ++ flat_map spaced (name ∷ arguments)

-- the arrow with the method and the children after it
abbrev pub tail_text : Word → List ℕ → List ℕ
tail_text method children = flat_map spaced (arrow ∷ method ∷ map decimal children)

-- an action line as it is written
abbrev pub action_text : ActionLine → List ℕ
action_text line = line_of (action_words line)

-- a decomposition line as it is written
abbrev pub decomposition_text : DecompositionLine → List ℕ
decomposition_text line = line_of (decomposition_words line)
