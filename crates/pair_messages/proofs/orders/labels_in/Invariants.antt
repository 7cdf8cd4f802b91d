use Rattle.std.proofs.Common.{◌≡◌, take}
use Rattle.std.specs.List.{flat_map}
use Rattle.diagnostics.specs.Near.{names_of}
use Rattle.pair_messages.specs.Offers.{label_text}
use Rattle.pair_messages.proofs.orders.labels_in.Given as goal

-- those so far
abbrev pub invariant-loop-subtask : goal.invariant-loop-subtask
invariant-loop-subtask l = names_of l.labels.items ≡ flat_map (λ s. label_text s.label) (take l.subtask-index l.network.subtasks)
