use Rattle.plan_findings.proofs.Placed.{more_added, none_added, themselves}
use Rattle.plan_findings.proofs.conditions.push_repeated.Goals as goal

pub returns-then-is_empty : goal.returns-then-is_empty
returns-then-is_empty c = none_added c.args.places.now.items c.args.block.now

pub loop-pushed-init : goal.loop-pushed-init
loop-pushed-init c = none_added c.args.places.now.items c.args.block.now

pub loop-pushed-preserved : goal.loop-pushed-preserved
loop-pushed-preserved c =
    more_added c.args.places.now.items c.loop-pushed.places.items _ c.args.block.now c.args.block.now c.loop-pushed.invariant
    c.in_ok-extend_from_slice.ensures.items (themselves c.args.block.now)
