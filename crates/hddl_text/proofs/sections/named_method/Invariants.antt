use Rattle.std.proofs.Common.{◌≡◌, ◌≤◌, length}
use Rattle.hddl_words.specs.Reading.{until_ended}
use Rattle.hddl_text.specs.Readers.{method_part}
use Rattle.hddl_text.specs.Drafts.{no_method_parts, method_of}
use Rattle.hddl_text.proofs.sections.named_method.Given as goal

abbrev pub invariant-parts : goal.invariant-parts
invariant-parts l = record {
  same : until_ended (method_of l.place l.name) method_part l.parts l.cursor ≡ until_ended (method_of l.fn.place l.fn.name) method_part no_method_parts l.fn.cursor;
  shorter : length l.cursor ≤ length l.fn.cursor;
}

abbrev pub decreases-parts : goal.decreases-parts
decreases-parts l = length l.cursor
