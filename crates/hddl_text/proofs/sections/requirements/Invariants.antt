use Rattle.std.proofs.Common.{◌≡◌, ◌≤◌, length}
use Rattle.hddl_words.specs.Reading.{until, adds, list_of}
use Rattle.hddl_text.specs.Readers.{requirement_item}
use Rattle.hddl_text.proofs.sections.requirements.Given as goal

abbrev pub invariant-parts : goal.invariant-parts
invariant-parts l = record {
  same : until (adds requirement_item) l.parts l.cursor ≡ list_of requirement_item l.fn.cursor;
  shorter : length l.cursor ≤ length l.fn.cursor;
}

abbrev pub decreases-parts : goal.decreases-parts
decreases-parts l = length l.cursor
