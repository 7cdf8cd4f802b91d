use Rattle.std.proofs.Common.{◌≡◌, take}
use Rattle.plan_text.specs.Forest.{lists_of}
use Rattle.htn_review.specs.Details.{names_of}
use Rattle.htn_review.proofs.details.names_of.Given as goal

abbrev pub invariant-loop-group : goal.invariant-loop-group
invariant-loop-group l = lists_of l.names.items ≡ names_of (take l.group-index l.groups)
