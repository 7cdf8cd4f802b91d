use Rattle.std.proofs.Common.{ℕ, List, ◌++◌, take}
use Rattle.std.specs.List.{AllZip}
use Rattle.plan_messages.specs.Mentions.{IsMention, listed_by_lines}
use Rattle.plan_messages.proofs.mentions.add_children.Given as goal

abbrev pub invariant-loop-number : goal.invariant-loop-number
invariant-loop-number l = (before : List (ℕ × ℕ)) → AllZip (IsMention l.text) before l.initial.mentions.items
    → AllZip (IsMention l.text) (before ++ listed_by_lines (take l.number l.lines) l.places) l.mentions.items
