use Rattle.std.proofs.Common.{take}
use Rattle.htn_review.specs.Sights.{ShowEntries}
use Rattle.htn_review.proofs.details.details_of_entries.Given as goal

abbrev pub invariant-loop-entry : goal.invariant-loop-entry
invariant-loop-entry l = ShowEntries l.domain l.task (take l.entry-index l.entries) l.found.items
