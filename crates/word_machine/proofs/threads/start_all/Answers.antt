use Rattle.std.proofs.Common.{◌+◌, rules}
use Rattle.word_machine.proofs.Pieces.{promised_more}
use Rattle.word_machine.proofs.threads.start_all.Goals as goal

pub loop-pass-preserved : goal.loop-pass-preserved
loop-pass-preserved g c =
    let was = c.loop-pass.invariant in let step = c.in-Some.ensures.steps in record {
      counted = search rules;
      promised = promised_more c.args.job c.loop-pass.handles.items c.push.new.self.items c.in-Some-start.handle c.in_ok-push-in-Some-start.ensures.items was.promised c.in-Some-start.ensures;
      fresh = λ k d below. let h = was.fresh (k + 1) d in grind rules;
    }
