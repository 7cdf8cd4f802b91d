use Rattle.std.proofs.Common.{◌≡◌, take, length}
use Rattle.hddl_names.specs.Rows.{AreRows}
use Rattle.hddl_names.proofs.edges.listed.Given as goal

abbrev pub invariant-loop-pair : goal.invariant-loop-pair
invariant-loop-pair l = record {
  size : length l.rows ≡ l.size;
  rows : AreRows (take l.pair-index l.pairs) l.rows;
}
