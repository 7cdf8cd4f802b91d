use Rattle.std.proofs.Common.{◌≡◌, ◌++◌, map, take}
use Rattle.std.specs.List.{flat_map}
use Rattle.picture_html.specs.Label.{spaced}
use Rattle.picture_html.proofs.changes.say_spaced.Given as goal

-- the words so far
abbrev pub invariant-loop-word : goal.invariant-loop-word
invariant-loop-word l = l.out.items ≡ l.initial.out.items ++ flat_map spaced (map (λ w. w.now) (take l.word-index l.words))
