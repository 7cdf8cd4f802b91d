use Rattle.std.proofs.Common.{◌*◌, ◌≡◌, ◌∙◌, length}
use Rattle.htn_order.proofs.Packed.{place_lt}
use Rattle.htn_order.proofs.Uniting.{united_start, united_step, united_end}
use Rattle.htn_order.proofs.bit_rows.unite.Goals as goal

pub loop-k-init : goal.loop-k-init
loop-k-init c = united_start c.args.width c.args.words.now c.args.a c.args.b

pub loop-k-preserved : goal.loop-k-preserved
loop-k-preserved c =
    let whole : length c.loop-k.words ≡ c.args.rows * c.args.width = c.loop-k.auto.words ∙ c.requires.whole in
    united_step c.args.width c.args.words.now c.args.a c.args.b c.loop-k.k c.loop-k.words c.loop-k-test.true
    (place_lt c.args.rows c.args.width c.args.a c.loop-k.k c.loop-k.words whole c.requires.first c.loop-k-test.true) c.loop-k.invariant

pub returns : goal.returns
returns c = united_end c.args.width c.args.words.now c.args.a c.args.b c.loop-k.k c.loop-k.words c.loop-k-test.false c.loop-k.invariant
