use Rattle.std.proofs.Common.{◌≡◌, ◌≤◌, length}
use Rattle.hddl_words.specs.Reading.{until, adds}
use Rattle.hddl_text.specs.Readers.{term_item}
use Rattle.hddl_text.proofs.terms.terms_after.Given as goal

abbrev pub invariant-terms : goal.invariant-terms
invariant-terms l = record {
  same : until (adds term_item) l.terms l.cursor ≡ until (adds term_item) l.fn.before l.fn.cursor;
  shorter : length l.cursor ≤ length l.fn.cursor;
}

abbrev pub decreases-terms : goal.decreases-terms
decreases-terms l = length l.cursor
