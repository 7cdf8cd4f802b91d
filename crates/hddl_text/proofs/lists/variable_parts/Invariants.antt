use Rattle.std.proofs.Common.{◌≡◌, ◌≤◌, length}
use Rattle.hddl_words.specs.Reading.{until}
use Rattle.hddl_text.specs.Readers.{variable_item}
use Rattle.hddl_text.specs.Drafts.{no_variable_parts}
use Rattle.hddl_text.proofs.lists.variable_parts.Given as goal

abbrev pub invariant-parts : goal.invariant-parts
invariant-parts l = record {
  same : until variable_item l.parts l.cursor ≡ until variable_item no_variable_parts l.fn.cursor;
  shorter : length l.cursor ≤ length l.fn.cursor;
}

abbrev pub decreases-parts : goal.decreases-parts
decreases-parts l = length l.cursor
