use Rattle.std.proofs.Common.{◌∙◌, ◌-◌, ap, map}
use Rattle.htn_plan.proofs.Lists.{take_all}
use Rattle.htn_plan.proofs.Walks.{place_by_frames}
use Rattle.htn_plan.proofs.preorder.place_of.Goals as goal

pub returns : goal.returns
returns c = λ numbers.
    c.loop-frame.invariant ∙ ap (map (λ f. f.taken - 1)) (take_all c.loop-frame.frame-index c.args.frames.now c.loop-frame-test.false)
    ∙ place_by_frames numbers c.args.frames.now
