use Rattle.std.proofs.Common.{sym, ap, ◌∙◌}
use Rattle.word_machine.specs.Desk.{PassState}
use Rattle.word_machine.proofs.Pieces.{left_falls, brings_more, seen_same}
use Rattle.word_machine.proofs.worker.work_off.Goals as goal

pub loop-number-smaller : goal.loop-number-smaller
loop-number-smaller g c =
    let claimed = c.in-Some.ensures.some in
    let taken = c.in_ok-outcome.ensures.pass in
    left_falls c.loop-number.pass.drawn c.take_piece.new.pass.drawn c.in-Some.number c.args.job.desk.now.pieces c.in-Some.ensures.rising claimed.0 (taken.drawn ∙ ap (λ (p : PassState). p.drawn) claimed.1)

pub loop-number-preserved : goal.loop-number-preserved
loop-number-preserved g c =
    let claimed = c.in-Some.ensures.some in
    let taken = c.in_ok-outcome.ensures.pass in
    let kept = c.loop-number.invariant in record {
      of_desk = taken.desk ∙ (ap (λ (p : PassState). p.desk) claimed.1 ∙ kept.of_desk);
      running = taken.ended ∙ (ap (λ (p : PassState). p.ended) claimed.1 ∙ kept.running);
      brings = brings_more (g.W.Expand.has_successors c.args.job.level.work.now) (g.W.Expand.finishes c.args.job.level.work.now) c.args.job.level.first c.args.job.level.last c.args.job.level.piece
          c.loop-number.pass c.claim.new.pass c.take_piece.new.pass c.in-Some.number c.in_ok-outcome.outcome c.loop-number.pieces.items c.push.new.self.items
          kept.brings claimed.1 taken c.in_ok-outcome.ensures.outcome c.in_ok-push.ensures.items;
    }

pub returns : goal.returns
returns g c =
    let ended = c.in_default.ensures.none in
    let kept = c.loop-number.invariant in record {
      desk_is = ap (λ (p : PassState). p.desk) ended ∙ kept.of_desk;
      ended = ap (λ (p : PassState). p.ended) ended;
      brings = record {
        numbers = kept.brings.numbers ∙ sym (ap (λ (p : PassState). p.drawn) ended);
        places = kept.brings.places ∙ sym (ap (λ (p : PassState). p.reported) ended);
        outcomes = λ k d below. seen_same (g.W.Expand.has_successors c.args.job.level.work.now) (g.W.Expand.finishes c.args.job.level.work.now) c.args.job.level.first c.args.job.level.last c.args.job.level.piece _ c.loop-number.pass.seen c.claim.new.pass.seen _ (sym (ap (λ (p : PassState). p.seen) ended)) (kept.brings.outcomes k d below);
      };
    }
