use Rattle.std.proofs.Common.{◌≡◌, ◌++◌, take}
use Rattle.std.specs.List.{flat_map}
use Rattle.picture_html.specs.Time.{bar_text}
use Rattle.picture_html.proofs.time.say_bars.Given as goal

-- the bars so far
abbrev pub invariant-loop-bar : goal.invariant-loop-bar
invariant-loop-bar l = l.out.items ≡ l.initial.out.items ++ flat_map bar_text (take l.bar-index l.bars)
