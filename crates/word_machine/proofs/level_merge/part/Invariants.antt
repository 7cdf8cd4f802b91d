use Rattle.std.proofs.Common.{◌≡◌, ◌+◌, All, vec_len, true}
use Rattle.std.specs.Vec.Iter.{into_iter_items, into_iter_len}
use Rattle.word_machine.specs.Desk.{all_drawn, all_reported, all_seen}
use Rattle.word_machine.specs.Workers.{IsWorked, Brings}
use Rattle.word_machine.proofs.level_merge.part.Given as goal

abbrev pub invariant-loop-worked : goal.invariant-loop-worked
invariant-loop-worked g l = record {
  left : All (IsWorked (g.W.Expand.has_successors l.job.level.work.now) (g.W.Expand.finishes l.job.level.work.now) l.job.level.first l.job.level.last l.job.level.piece l.job.desk.now) (into_iter_items l.worked-iterator);
  counted : vec_len l.passes + into_iter_len l.worked-iterator ≡ vec_len l.fn.home;
  own : All (λ p. p.desk ≡ l.job.desk.now) l.passes.items;
  ended : All (λ p. p.ended ≡ true) l.passes.items;
  brings : Brings (g.W.Expand.has_successors l.job.level.work.now) (g.W.Expand.finishes l.job.level.work.now) l.job.level.first l.job.level.last l.job.level.piece (all_drawn l.passes.items) (all_reported l.passes.items) (all_seen l.passes.items) l.pieces.items;
}
