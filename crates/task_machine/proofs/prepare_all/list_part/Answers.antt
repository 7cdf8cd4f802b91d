use Rattle.std.proofs.Common.{◌∷◌, [], ◌<◌, length, length-append, ap, arith}
use Rattle.task_machine.proofs.Blocks.{part_more, part_none}
use Rattle.task_machine.proofs.prepare_all.list_part.Goals as goal

pub loop-place-init : goal.loop-place-init
loop-place-init c =
    let none = c.new-listed.ensures.items in
    record {
      part = part_none c.args.networks.now c.args.block.now c.args.first c.new-listed.result.items none;
      count = (let is = ap length none in omega (arith, is));
    }

pub loop-place-preserved : goal.loop-place-preserved
loop-place-preserved c =
    let block = c.args.block.now in
    let place = c.loop-place.place in
    let i = c.loop-place.invariant in
    let old = c.loop-place.listed.items in
    let one = c.list_one.result in
    let pushed = c.in_ok-push.ensures.items in
    let low : place < length block = omega (arith, c.loop-place-test.true, c.min-place-end.ensures) in
    let long = length-append old (one ∷ []) in
    let is = ap length pushed in
    record {
      part = part_more c.args.networks.now block c.args.first place old c.push.new.self.items one 0 i.count low c.list_one.ensures.network c.list_one.ensures.first pushed i.part;
      count = omega (arith, long, is, i.count);
    }

pub returns : goal.returns
returns c = c.loop-place.invariant.part
