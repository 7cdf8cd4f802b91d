use Rattle.std.proofs.Common.{◌≡◌, ◌≤◌, ◌++◌, take, drop, length}
use Rattle.diagnostics.specs.Near.{indices_from, is_score}
use Rattle.diagnostics.proofs.offers.nearest.Given as goal

abbrev pub invariant-loop-index : goal.invariant-loop-index
invariant-loop-index l = record {
  few : length l.found.items ≤ 3;
  rest : take 3 (l.found.items ++ indices_from (is_score l.least) l.index (drop l.index l.score-items)) ≡ take 3 (indices_from (is_score l.least) 0 l.score-items);
}
