use Rattle.std.proofs.Common.{◌≡◌, drop}
use Rattle.std.specs.List.{flat_map}
use Rattle.hddl_meaning.specs.Names.{optional_mention}
use Rattle.pair_messages.specs.Notes.{first_place}
use Rattle.pair_messages.proofs.listed.first_label.Given as goal

-- those that are left have the same first one
abbrev pub invariant-loop-subtask : goal.invariant-loop-subtask
invariant-loop-subtask l = first_place (flat_map (λ s. optional_mention s.label) (drop l.subtask-index l.subtasks)) l.text ≡ first_place (flat_map (λ s. optional_mention s.label) l.subtasks) l.text
