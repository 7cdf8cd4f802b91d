use Rattle.std.proofs.Common.{ℕ, List}
use Rattle.hddl_names.specs.Closures.{AreSound}
use Rattle.hddl_names.specs.Rows.{AreRows, turned}
use Rattle.hddl_names.proofs.closure.gathered.Given as goal

abbrev pub invariant-loop-number : goal.invariant-loop-number
invariant-loop-number l = (pairs : List (ℕ × ℕ)) → AreRows (turned pairs) l.children → AreSound pairs l.junctions.keys l.sets.items
