use Rattle.std.proofs.Common.{◌≡◌, [], map, drop, reverse}
use Rattle.hddl_words.specs.Words.{word_of}
use Rattle.hddl_words.specs.Brackets.{bracket_fault}
use Rattle.hddl_words.proofs.brackets.check_brackets.Given as goal

abbrev pub invariant-loop-token : goal.invariant-loop-token
invariant-loop-token l = bracket_fault (reverse l.places.items) (map word_of (drop l.token-index l.tokens)) ≡ bracket_fault [] (map word_of l.tokens)
