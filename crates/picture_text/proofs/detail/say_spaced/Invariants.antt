use Rattle.std.proofs.Common.{◌≡◌, ◌++◌, take}
use Rattle.std.specs.List.{flat_map}
use Rattle.plan_text.specs.Forest.{lists_of}
use Rattle.picture_text.specs.Words.{spaced}
use Rattle.picture_text.proofs.detail.say_spaced.Given as goal

-- the literals so far
abbrev pub invariant-loop-literal : goal.invariant-loop-literal
invariant-loop-literal l = l.out.items ≡ l.initial.out.items ++ flat_map spaced (lists_of (take l.literal-index l.literals))
