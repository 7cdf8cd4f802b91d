-- The positions of the subtasks of a network, by their labels.
use Rattle.std.specs.Prelude.{◌≡◌}
use Rattle.std.specs.List.{position}
use Rattle.hddl_meaning.specs.Mentions.{Text}
use Rattle.hddl_meaning.specs.Networks.{is_text}
use Rattle.hddl_scope.specs.Numbers.{Entries, number_at}
use Rattle.hddl_words.specs.declared.network.NetworkText.{NetworkText}

-- each label has the position of the first subtask that has it
abbrev pub AreNumbers : NetworkText → Entries → Type 0
AreNumbers n numbers = (t : Text) → number_at numbers t ≡ position (λ s. is_text t s.label) n.subtasks
