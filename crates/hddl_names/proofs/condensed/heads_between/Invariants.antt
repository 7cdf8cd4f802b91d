use Rattle.std.proofs.Common.{ℕ, List}
use Rattle.hddl_names.specs.Heads.{AreHeads}
use Rattle.hddl_names.specs.Rows.{AreRows, turned}
use Rattle.hddl_names.proofs.condensed.heads_between.Given as goal

abbrev pub invariant-loop-number : goal.invariant-loop-number
invariant-loop-number l = (pairs : List (ℕ × ℕ)) → AreRows pairs l.up → AreRows (turned pairs) l.down → AreHeads pairs l.size l.heads.items
