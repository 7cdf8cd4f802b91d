use Rattle.std.proofs.Common.{◌≡◌, take, map}
use Rattle.plan_text.specs.Line.{folded}
use Rattle.plan_text.specs.Seen.{seen_all}
use Rattle.plan_text.proofs.draft.names_of.Given as goal

abbrev pub invariant-loop-word : goal.invariant-loop-word
invariant-loop-word l = l.names.items ≡ map folded (seen_all (take l.word-index l.words))
