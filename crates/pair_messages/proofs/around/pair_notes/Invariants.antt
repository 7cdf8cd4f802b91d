use Rattle.std.proofs.Common.{take}
use Rattle.std.specs.List.{AllZip, flat_map}
use Rattle.pair_messages.specs.Notes.{IsAtOrdering, ordering_of}
use Rattle.pair_messages.proofs.around.pair_notes.Given as goal

-- those so far
abbrev pub invariant-loop-pair : goal.invariant-loop-pair
invariant-loop-pair l = AllZip (IsAtOrdering l.index.texts.now l.text) (flat_map ordering_of (take l.pair-index l.cycle)) l.notes.items
