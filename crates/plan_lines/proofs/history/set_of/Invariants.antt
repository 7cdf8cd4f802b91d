use Rattle.std.proofs.Common.{◌≡◌, take}
use Rattle.plan_lines.proofs.history.set_of.Given as goal

abbrev pub invariant-loop-atom : goal.invariant-loop-atom
invariant-loop-atom l = l.set.keys ≡ take l.atom-index l.atoms
