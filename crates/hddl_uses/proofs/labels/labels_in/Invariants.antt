use Rattle.std.proofs.Common.{◌≡◌, take}
use Rattle.std.specs.List.{flat_map}
use Rattle.hddl_meaning.specs.Names.{optional_mention}
use Rattle.hddl_uses.proofs.labels.labels_in.Given as goal

abbrev pub invariant-loop-subtask : goal.invariant-loop-subtask
invariant-loop-subtask l = l.mentions.items ≡ flat_map (λ s. optional_mention s.label) (take l.subtask-index l.subtasks)
