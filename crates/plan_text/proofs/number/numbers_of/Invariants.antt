use Rattle.std.proofs.Common.{◌≡◌, take, map, true}
use Rattle.std.specs.List.{list_all}
use Rattle.plan_text.specs.Line.{number, is_small}
use Rattle.plan_text.specs.Seen.{seen_all}
use Rattle.plan_text.proofs.number.numbers_of.Given as goal

abbrev pub invariant-loop-word : goal.invariant-loop-word
invariant-loop-word l = record {
  values : l.numbers.items ≡ map number (seen_all (take l.word-index l.words));
  small : list_all is_small (seen_all (take l.word-index l.words)) ≡ true;
}
