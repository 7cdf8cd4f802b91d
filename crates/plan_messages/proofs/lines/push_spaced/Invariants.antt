use Rattle.std.proofs.Common.{◌≡◌, ◌++◌, ◌∷◌, map, take}
use Rattle.std.specs.List.{flat_map}
use Rattle.diagnostics.specs.Shown.{shown}
use Rattle.plan_messages.proofs.lines.push_spaced.Given as goal

abbrev pub invariant-loop-word : goal.invariant-loop-word
invariant-loop-word l = l.text.items ≡ l.initial.text.items ++ flat_map (λ w. 32 ∷ map shown w) (map (λ w. w.now) (take l.word-index l.words))
