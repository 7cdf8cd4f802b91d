use Rattle.std.proofs.Common.{◌≡◌, ◌≤◌, length}
use Rattle.hddl_words.specs.Reading.{until, adds, list_of, opened}
use Rattle.hddl_text.specs.Readers.{predicate_rest}
use Rattle.hddl_text.proofs.sections.predicates.Given as goal

abbrev pub invariant-parts : goal.invariant-parts
invariant-parts l = record {
  same : until (adds (opened predicate_rest)) l.parts l.cursor ≡ list_of (opened predicate_rest) l.fn.cursor;
  shorter : length l.cursor ≤ length l.fn.cursor;
}

abbrev pub decreases-parts : goal.decreases-parts
decreases-parts l = length l.cursor
