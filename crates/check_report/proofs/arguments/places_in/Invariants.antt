use Rattle.std.proofs.Common.{◌≡◌, map}
use Rattle.hddl_words.specs.Words.{word_of}
use Rattle.check_report.proofs.Places.{Found, kind_before}
use Rattle.check_report.proofs.arguments.places_in.Given as goal

abbrev pub invariant-loop-token : goal.invariant-loop-token
invariant-loop-token l = record {
  found : Found (map word_of l.tokens) l.token-index l.places.keys;
  before : l.before ≡ kind_before (map word_of l.tokens) l.token-index;
}
