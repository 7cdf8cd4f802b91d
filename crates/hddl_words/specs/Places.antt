-- The places of a tree's parts in its text.
use Rattle.std.specs.Prelude.{ℕ, Option, Some, None}
use Rattle.hddl_words.specs.Names.{Name}
use Rattle.hddl_words.specs.declared.network.SubtaskText.{SubtaskText}

-- the first name of a subtask: its label, or else its task
abbrev pub first_of : Option Name → Name → Name
first_of (Some label) name = label
first_of None name = name

-- the place of the first word in a subtask's bracket
abbrev pub place_of : SubtaskText → ℕ
place_of subtask = (first_of subtask.label subtask.task.name).place
