-- Positions of labels.
use Rattle.std.specs.Prelude.{◌≡◌, ℕ, List, Option, Some, None}
use Rattle.std.specs.List.{position}
use Rattle.std.specs.Map.{lookup}
use Rattle.hddl_words.specs.declared.network.SubtaskText.{SubtaskText}
use Rattle.hddl_meaning.specs.Mentions.{Text}
use Rattle.hddl_meaning.specs.Names.{is_same_text}
use Rattle.hddl_meaning.specs.Networks.{is_text}
use Rattle.hddl_build.specs.declared.labels.Labels.{Labels}

-- the position of a label
abbrev pub position_in : Labels → Text → Option ℕ
position_in labels text = lookup (λ key. is_same_text text key.items) labels.positions.entries

-- each label has the position of the first subtask that it names
abbrev pub AreLabelsOf : List SubtaskText → Labels → Type 0
AreLabelsOf subtasks labels = (text : Text) → position_in labels text ≡ position (λ s. is_text text s.label) subtasks

-- the first, or else the second
abbrev pub first_of : Option ℕ → Option ℕ → Option ℕ
first_of None other = other
first_of (Some position) other = Some position
