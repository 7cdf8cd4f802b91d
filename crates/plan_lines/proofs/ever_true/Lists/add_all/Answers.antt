use Rattle.std.proofs.Common.{arith}
use Rattle.plan_lines.proofs.Slotted.{all_slots, argument_more, more_more}
use Rattle.plan_lines.specs.declared.ever_true.Slot.TheVariants.{Argument, Predicate}
use Rattle.plan_lines.proofs.ever_true.Lists.add_all.Goals as goal

pub loop-place-preserved : goal.loop-place-preserved
loop-place-preserved c =
    let inv = c.loop-place.invariant in
    let added = c.in_ok-add-2.ensures in
    let p = c.predicate-predicate.result in
    let a = c.args.atom.now in
    record {
      more = more_more c.add.new.self c.loop-place.self c.add-in-loop-place.new.self inv.more added.0;
      predicate = added.0.kept (Predicate p) a inv.predicate;
      arguments = argument_more c.add-in-loop-place.new.self a p c.loop-place.place c.arguments-object-items.result.now c.arguments-object-items.ensures c.loop-place-test.true added.1
          (λ k o below at. added.0.kept (Argument p k o) a (inv.arguments k o below at));
    }

pub returns : goal.returns
returns c =
    let inv = c.loop-place.invariant in (
      more_more c.args.self.now c.add.new.self c.loop-place.self c.in_ok-add.ensures.0 inv.more,
      all_slots c.loop-place.self c.args.atom.now c.predicate-predicate.result c.loop-place.place c.arguments-object-items.result.now c.arguments-object-items.ensures (omega (arith, c.loop-place-test.false))
          c.predicate-predicate.ensures inv.predicate inv.arguments,
    )
