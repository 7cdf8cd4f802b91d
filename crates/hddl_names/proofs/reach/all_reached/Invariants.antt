use Rattle.hddl_names.proofs.Fronts.{IsFront}
use Rattle.hddl_names.proofs.reach.all_reached.Given as goal

abbrev pub invariant-loop-i : goal.invariant-loop-i
invariant-loop-i l = IsFront l.rows l.starts l.found.keys l.i
