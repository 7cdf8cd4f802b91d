use Rattle.std.proofs.Common.{◌≡◌, ◌++◌, take}
use Rattle.std.specs.List.{flat_map}
use Rattle.picture_html.specs.Changes.{fact}
use Rattle.picture_html.proofs.changes.say_facts.Given as goal

-- the facts so far
abbrev pub invariant-loop-fact : goal.invariant-loop-fact
invariant-loop-fact l = l.out.items ≡ l.initial.out.items ++ flat_map fact (take l.fact-index l.facts)
