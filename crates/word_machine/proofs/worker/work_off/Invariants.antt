use Rattle.std.proofs.Common.{◌≡◌, ◌-◌, false}
use Rattle.word_machine.specs.Workers.{Brings}
use Rattle.word_machine.proofs.Pieces.{above}
use Rattle.word_machine.proofs.worker.work_off.Given as goal

abbrev pub decreases-loop-number : goal.decreases-loop-number
decreases-loop-number g l = l.job.desk.now.pieces - above l.pass.drawn

abbrev pub invariant-loop-number : goal.invariant-loop-number
invariant-loop-number g l = record {
  of_desk : l.pass.desk ≡ l.job.desk.now;
  running : l.pass.ended ≡ false;
  brings : Brings (g.W.Expand.has_successors l.job.level.work.now) (g.W.Expand.finishes l.job.level.work.now) l.job.level.first l.job.level.last l.job.level.piece l.pass.drawn l.pass.reported l.pass.seen l.pieces.items;
}
