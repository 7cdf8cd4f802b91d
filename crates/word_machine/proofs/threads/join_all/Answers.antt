use Rattle.std.proofs.Common.{◌+◌, rules}
use Rattle.word_machine.proofs.threads.join_all.Goals as goal

pub loop-handle-preserved-then-take_in : goal.loop-handle-preserved-then-take_in
loop-handle-preserved-then-take_in g c =
    let was = c.loop-handle.invariant in let step = c.in-Some.ensures.steps in record {
      promised = λ k d below. let h = was.promised (k + 1) d in grind rules;
      right = c.take_in.ensures.right;
      counted = λ e. search rules;
    }

pub loop-handle-preserved : goal.loop-handle-preserved
loop-handle-preserved g c =
    let was = c.loop-handle.invariant in let step = c.in-Some.ensures.steps in record {
      promised = λ k d below. let h = was.promised (k + 1) d in grind rules;
      right = c.take_in.ensures.right;
      counted = λ e. let a = was.counted e in let b = c.take_in.ensures.one c.if-take_in.false in search rules;
    }
