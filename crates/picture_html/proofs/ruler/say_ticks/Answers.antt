use Rattle.std.proofs.Common.{◌≡◌, ◌++◌, ap, ◌∙◌, arith}
use Rattle.std.specs.List.{flat_map, range_with_len}
use Rattle.picture_html.specs.Ruler.{tick_at}
use Rattle.picture_html.proofs.Counting.{numbers_more}
use Rattle.picture_html.proofs.ruler.say_ticks.Goals as goal

pub loop-position-preserved : goal.loop-position-preserved
loop-position-preserved c =
    numbers_more (tick_at c.step_of-step.result) c.args.out.now.items c.loop-position.out.items c.say_tick_at.new.out.items c.loop-position.position c.loop-position.invariant c.in_ok-say_tick_at.ensures

pub returns : goal.returns
returns c =
    let end : c.loop-position.position ≡ c.args.positions = omega arith in
    c.loop-position.invariant ∙ ap (λ k. c.args.out.now.items ++ flat_map (tick_at c.step_of-step.result) (range_with_len 0 k)) end
    ∙ ap (λ s. c.args.out.now.items ++ flat_map (tick_at s) (range_with_len 0 c.args.positions)) c.step_of-step.ensures.value
