use Rattle.std.proofs.Common.{All, take}
use Rattle.never_applied.specs.Fine.{IsStartUsed}
use Rattle.never_applied.proofs.usable.Usable.add_initials.Given as goal

abbrev pub invariant-loop-initial : goal.invariant-loop-initial
invariant-loop-initial l = All (IsStartUsed l.fine l.self) (take l.initial-index l.initials)
