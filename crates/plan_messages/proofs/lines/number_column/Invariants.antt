use Rattle.std.proofs.Common.{◌≡◌, max, take}
use Rattle.std.specs.List.{fold}
use Rattle.plan_messages.specs.RunText.{number_width}
use Rattle.plan_messages.proofs.lines.number_column.Given as goal

abbrev pub invariant-loop-line : goal.invariant-loop-line
invariant-loop-line l = l.widest ≡ fold (λ widest line. max widest (number_width line)) 0 (take l.line-index l.lines)
