use Rattle.std.proofs.Common.{◌≡◌, ◌∷◌, ◌-◌, ◌^◌, length, min, take}
use Rattle.plan_messages.specs.RunText.{shown_words}
use Rattle.plan_messages.proofs.lines.action_width.Given as goal

abbrev pub invariant-loop-word : goal.invariant-loop-word
invariant-loop-word l = l.width ≡ min (length (shown_words (l.line.name ∷ take l.word-index l.line.arguments))) (2 ^ 64 - 1)
