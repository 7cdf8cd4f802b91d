use Rattle.std.proofs.Common.{arith, refl}
use Rattle.heuristics.proofs.MarkWords.{joined_marks, joined_more}
use Rattle.heuristics.proofs.marks.add_marks.Goals as goal

pub loop-k-init : goal.loop-k-init
loop-k-init c = record { count = omega arith; joined = record { below = λ j low. absurd (omega (arith, low)); above = λ j past. refl } }

pub loop-k-preserved : goal.loop-k-preserved
loop-k-preserved c = record {
  count = omega (arith, c.in_ok-add_word.ensures.len);
  joined = joined_more c.loop-k.k c.args.marks.now.items c.args.others.now c.loop-k.marks.items c.add_word.new.marks.items c.in_ok-add_word.ensures.words c.loop-k.invariant.joined;
}

pub returns : goal.returns
returns c =
    joined_marks c.args.marks.now.items c.args.others.now c.loop-k.marks.items (λ j low. c.loop-k.invariant.joined.below j (omega (arith, low, c.loop-k-test.false)))
    (λ j past. c.loop-k.invariant.joined.above j (omega (arith, past, c.loop-k.auto.k-end)))
