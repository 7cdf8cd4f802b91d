use Rattle.std.proofs.Common.{◌≡◌, ◌++◌}
use Rattle.std.specs.List.{flat_map, range_with_len}
use Rattle.picture_html.specs.Ruler.{tick_at}
use Rattle.picture_html.proofs.ruler.say_ticks.Given as goal

-- the numbers so far
abbrev pub invariant-loop-position : goal.invariant-loop-position
invariant-loop-position l = l.out.items ≡ l.initial.out.items ++ flat_map (tick_at l.step) (range_with_len 0 l.position)
