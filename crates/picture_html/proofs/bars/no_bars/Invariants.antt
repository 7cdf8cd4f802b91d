use Rattle.std.proofs.Common.{◌≡◌, length}
use Rattle.picture_html.proofs.bars.no_bars.Given as goal

-- as many as lines so far
abbrev pub invariant-loop : goal.invariant-loop
invariant-loop l = length l.bars.items ≡ l.counter
