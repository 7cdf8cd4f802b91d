use Rattle.std.proofs.Common.{◌≡◌, get_or}
use Rattle.call_table.specs.declared.call.Exit.{Exit}
use Rattle.call_proof.proofs.Lifting.{same_all, same_more}
use Rattle.call_proof.proofs.whole.are_same_exits.Goals as goal

pub loop-k-preserved : goal.loop-k-preserved
loop-k-preserved c =
    let none : Exit = record { state = 0; cost = 0 } in
    let state = c.is_same_exit.ensures.state c.if-not-is_same_exit.false in
    let cost = c.is_same_exit.ensures.cost c.if-not-is_same_exit.false in
    let same : get_or c.args.one.now c.loop-k.k none ≡ get_or c.args.other.now c.loop-k.k none =
    λ i. record { state = state i; cost = cost i } in
    same_more c.args.one.now c.args.other.now c.loop-k.k none c.loop-k-test.true c.if-one-other.false same
    c.loop-k.invariant

pub returns : goal.returns
returns c = λ _.
    same_all c.args.one.now c.args.other.now c.loop-k.k c.loop-k-test.false c.if-one-other.false c.loop-k.invariant
