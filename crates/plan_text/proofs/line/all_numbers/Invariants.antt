use Rattle.std.proofs.Common.{◌≡◌, drop}
use Rattle.std.specs.List.{list_all}
use Rattle.plan_text.specs.Line.{is_number}
use Rattle.plan_text.specs.Seen.{seen_all}
use Rattle.plan_text.proofs.line.all_numbers.Given as goal

-- the answer rests on the words that are left
abbrev pub invariant-loop-word : goal.invariant-loop-word
invariant-loop-word l = list_all is_number (seen_all l.words) ≡ list_all is_number (seen_all (drop l.word-index l.words))
