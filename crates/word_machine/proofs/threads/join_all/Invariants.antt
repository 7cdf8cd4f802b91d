use Rattle.std.proofs.Common.{◌≡◌, ◌+◌, All, vec_len, false}
use Rattle.std.specs.Vec.Iter.{into_iter_items, into_iter_len}
use Rattle.word_machine.specs.Workers.{IsWorked}
use Rattle.word_machine.proofs.threads.join_all.Given as goal

abbrev pub invariant-loop-handle : goal.invariant-loop-handle
invariant-loop-handle g l = record {
  promised : All (λ h. h.promise ≡ l.job) (into_iter_items l.handle-iterator);
  right : All (IsWorked (g.W.Expand.has_successors l.job.level.work.now) (g.W.Expand.finishes l.job.level.work.now) l.job.level.first l.job.level.last l.job.level.piece l.job.desk.now) l.home.items;
  counted : l.refused ≡ false → vec_len l.home + into_iter_len l.handle-iterator ≡ vec_len l.initial.home + vec_len l.fn.handles;
}
