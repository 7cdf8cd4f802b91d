use Rattle.call_table.specs.Views.{AreExits}
use Rattle.call_table.proofs.maps.exits_of.Given as goal

abbrev pub invariant-loop-exit : goal.invariant-loop-exit
invariant-loop-exit l = AreExits l.call l.found
