use Rattle.std.proofs.Common.{◌≡◌, length, arith, subst}
use Rattle.htn_order.proofs.LaneSums.{IsAdding, adding_more, adding_over, adding_start, adding_whole}
use Rattle.htn_order.proofs.lanes.add_to_lanes.Goals as goal

pub loop-i-init : goal.loop-i-init
loop-i-init c = adding_start c.args.words.now c.args.word

pub loop-i-preserved : goal.loop-i-preserved
loop-i-preserved c = adding_more c.args.words.now c.args.word c.loop-i.words c.loop-i.carry c.loop-i.i (omega arith) c.loop-i.invariant

pub returns-then-carry-eq0 : goal.returns-then-carry-eq0
returns-then-carry-eq0 c j low =
    adding_over c.args.words.now c.args.word c.loop-i.words c.loop-i.carry c.loop-i.i c.if-carry-eq0.true c.loop-i.invariant (length c.args.words.now) (omega arith) j

pub returns : goal.returns
returns c j low =
    let end : c.loop-i.i ≡ length c.args.words.now = (let past = c.loop-i-test.false in let near = c.loop-i.auto.i-end in omega arith) in
    adding_whole c.args.words.now c.args.word c.loop-i.words c.loop-i.carry (length c.args.words.now)
    (subst (IsAdding c.args.words.now c.args.word c.loop-i.words c.loop-i.carry) end c.loop-i.invariant) j (c.requires j low)
