use Rattle.std.proofs.Common.{◌≡◌, ◌++◌, drop}
use Rattle.htn_walk.specs.Told.{FinishesListed, told}
use Rattle.htn_net.proofs.numbers.push_numbers.Given as goal

-- the word and the numbers of the ranks that are left are all
abbrev pub invariant-loop-rank : goal.invariant-loop-rank
invariant-loop-rank l = record {
  word : l.word.items ++ told l.task l.config (drop l.rank-index l.ranks) ≡ l.initial.word.items ++ told l.task l.initial.config l.ranks;
  leads : FinishesListed l.task l.config (drop l.rank-index l.ranks);
}
