use Rattle.diagnostics.specs.Near.{names_of}
use Rattle.text_messages.specs.Near.{ArePicked}
use Rattle.text_messages.proofs.near.picked.Given as goal

-- those so far
abbrev pub invariant-loop-number : goal.invariant-loop-number
invariant-loop-number l = ArePicked l.role l.before (names_of l.keywords) l.numbers (names_of l.found.items)
