use Rattle.std.proofs.Common.{ℕ, List, ◌++◌, take}
use Rattle.std.specs.List.{AllZip}
use Rattle.plan_messages.specs.Mentions.{IsMention, listed_by}
use Rattle.plan_messages.specs.Spots.{IsOnLine}
use Rattle.plan_messages.proofs.mentions.add_listed.Given as goal

abbrev pub invariant-loop-id : goal.invariant-loop-id
invariant-loop-id l = record {
  on_line : IsOnLine l.text l.line l.at;
  grown : (before : List (ℕ × ℕ)) → AllZip (IsMention l.text) before l.initial.mentions.items
      → AllZip (IsMention l.text) (before ++ listed_by (take l.id-index l.listed) l.line) l.mentions.items;
}
