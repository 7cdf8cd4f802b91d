use Rattle.std.proofs.Common.{◌≡◌, ◌++◌, take}
use Rattle.std.specs.List.{flat_map}
use Rattle.picture_text.specs.Text as spec
use Rattle.picture_text.proofs.as_text.say_bars.Given as goal

-- the bars so far
abbrev pub invariant-loop-is_last : goal.invariant-loop-is_last
invariant-loop-is_last l = l.out.items ≡ l.initial.out.items ++ flat_map (spec.bar l.glyphs) (take l.is_last-index l.above)
