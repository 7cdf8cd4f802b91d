use Rattle.std.proofs.Common.{◌≡◌, ◌≤◌, length}
use Rattle.hddl_words.specs.Reading.{until}
use Rattle.hddl_text.specs.Readers.{name_item}
use Rattle.hddl_text.specs.Drafts.{no_name_parts}
use Rattle.hddl_text.proofs.lists.name_parts.Given as goal

abbrev pub invariant-parts : goal.invariant-parts
invariant-parts l = record {
  same : until (name_item l.are_types) l.parts l.cursor ≡ until (name_item l.fn.are_types) no_name_parts l.fn.cursor;
  shorter : length l.cursor ≤ length l.fn.cursor;
}

abbrev pub decreases-parts : goal.decreases-parts
decreases-parts l = length l.cursor
