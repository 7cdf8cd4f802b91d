use Rattle.picture_html.specs.Time.{bar_text}
use Rattle.picture_html.proofs.Counting.{items_more}
use Rattle.picture_html.proofs.time.say_bars.Goals as goal

pub loop-bar-preserved : goal.loop-bar-preserved
loop-bar-preserved c =
    items_more bar_text c.args.bars.now c.loop-bar.bar-index (record { first = 0; last = 0 }) c.args.out.now.items c.loop-bar.out.items c.say_bar.new.out.items
    c.loop-bar-test.true c.loop-bar.invariant c.in_ok-say_bar.ensures
