use Rattle.std.proofs.Common.{ℕ, take}
use Rattle.hddl_names.proofs.Heads.{IsGiven}
use Rattle.hddl_names.proofs.condensed.give_head.Given as goal

abbrev pub invariant-loop-number : goal.invariant-loop-number
invariant-loop-number l = IsGiven l.initial.heads.items l.heads.items l.these.keys (take l.number-index l.those) l.head
