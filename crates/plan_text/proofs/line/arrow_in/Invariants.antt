use Rattle.std.proofs.Common.{◌≡◌, ◌+◌, drop}
use Rattle.std.specs.List.{position_or_len}
use Rattle.plan_text.specs.Line.{is_arrow}
use Rattle.plan_text.specs.Seen.{seen_all}
use Rattle.plan_text.proofs.line.arrow_in.Given as goal

-- no word so far is an arrow
abbrev pub invariant-loop-i : goal.invariant-loop-i
invariant-loop-i l = position_or_len is_arrow (seen_all l.words) ≡ l.i + position_or_len is_arrow (seen_all (drop l.i l.words))
