use Rattle.std.proofs.Common.{◌≡◌, ◌≤◌, length}
use Rattle.hddl_words.specs.Reading.{until}
use Rattle.hddl_text.specs.Readers.{task_part}
use Rattle.hddl_text.specs.Drafts.{no_task_parts}
use Rattle.hddl_text.proofs.sections.task_parts.Given as goal

abbrev pub invariant-parts : goal.invariant-parts
invariant-parts l = record {
  same : until task_part l.parts l.cursor ≡ until task_part no_task_parts l.fn.cursor;
  shorter : length l.cursor ≤ length l.fn.cursor;
}

abbrev pub decreases-parts : goal.decreases-parts
decreases-parts l = length l.cursor
