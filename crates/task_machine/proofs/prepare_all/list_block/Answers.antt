use Rattle.std.proofs.Common.{◌∙◌, ◌∷◌, [], ◌<◌, ◌≤◌, All, length, length-append, ap, arith, subst, sym}
use Rattle.std.specs.Vec.Iter.{into_iter_items}
use Rattle.network_table.proofs.Remembering.{holds_first, holds_rest}
use Rattle.task_machine.specs.Blocks.{HoldsPart}
use Rattle.task_machine.proofs.Blocks.{listed_all, listed_more, listed_nothing}
use Rattle.task_machine.proofs.prepare_all.list_block.Goals as goal

pub loop-part-init : goal.loop-part-init
loop-part-init g c = record {
  parts = subst (All (HoldsPart c.args.networks.now c.args.block.now)) (sym c.into_iter-part-iterator.ensures.into_iter_gives.0) c.in_ok-parts.ensures;
  listed = listed_nothing c.args.networks.now c.args.block.now c.in_ok-listed.listed.items c.in_ok-listed.ensures.items;
}

pub loop-part-preserved : goal.loop-part-preserved
loop-part-preserved g c =
    let t = c.args.networks.now in
    let block = c.args.block.now in
    let i = c.loop-part.invariant in
    let items = into_iter_items c.loop-part.part-iterator in
    let rest = into_iter_items c.next.new.self in
    let step = c.in-Some.ensures.steps.0 in
    let own = subst (HoldsPart t block) c.in_ok-part.was (holds_first (HoldsPart t block) items rest c.in-Some.part step i.parts) in
    record {
      parts = holds_rest (HoldsPart t block) items rest c.in-Some.part step i.parts;
      listed = c.in_ok-put_part.ensures t block i.listed own;
    }

pub loop-place-init : goal.loop-place-init
loop-place-init g c = record {
  listed = c.loop-part.invariant.listed;
  count = sym (c.len-place.ensures ∙ c.loop-part.listed.ok.0);
}

pub loop-place-preserved : goal.loop-place-preserved
loop-place-preserved g c =
    let block = c.args.block.now in
    let place = c.loop-place.place in
    let i = c.loop-place.invariant in
    let old = c.loop-place.listed.items in
    let one = c.list_one.result in
    let pushed = c.in_ok-push.ensures.items in
    let low : place < length block = omega arith in
    let long = length-append old (one ∷ []) in
    let is = ap length pushed in
    record {
      listed = listed_more c.args.networks.now block place old c.push.new.self.items one 0 i.count low c.list_one.ensures.network c.list_one.ensures.first pushed i.listed;
      count = omega (arith, long, is, i.count);
    }

pub returns-clause-networks : goal.returns-clause-networks
returns-clause-networks g c =
    let i = c.loop-place.invariant in
    let enough : length c.args.block.now ≤ length c.loop-place.listed.items = omega (arith, i.count, c.loop-place-test.false) in
    listed_all c.args.networks.now c.args.block.now c.loop-place.listed.items enough i.listed

pub returns-clause-first : goal.returns-clause-first
returns-clause-first g c = c.loop-place.invariant.listed.1
