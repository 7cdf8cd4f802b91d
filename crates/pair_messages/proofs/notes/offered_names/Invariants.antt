use Rattle.std.proofs.Common.{◌≡◌, take}
use Rattle.diagnostics.specs.Near.{names_of}
use Rattle.diagnostics.specs.Offers.{offered}
use Rattle.pair_messages.proofs.notes.offered_names.Given as goal

-- those so far
abbrev pub invariant-loop-remark : goal.invariant-loop-remark
invariant-loop-remark l = names_of l.names.items ≡ offered (take l.remark-index l.remarks)
