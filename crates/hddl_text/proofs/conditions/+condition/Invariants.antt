use Rattle.std.proofs.Common.{◌≡◌, ◌≤◌, ◌+◌, ◌*◌, length}
use Rattle.hddl_words.specs.Reading.{until}
use Rattle.hddl_text.specs.Readers.{nested, condition_rest}
use Rattle.hddl_text.proofs.conditions.+condition.Given as goal

abbrev pub decreases-forall_rest : goal.decreases-forall_rest
decreases-forall_rest l = 3 * length l.cursor.now + 1

abbrev pub decreases-condition_part : goal.decreases-condition_part
decreases-condition_part l = 3 * length l.cursor.now + 2

abbrev pub decreases-condition_rest : goal.decreases-condition_rest
decreases-condition_rest l = 3 * length l.cursor.now

abbrev pub decreases-nested_condition : goal.decreases-nested_condition
decreases-nested_condition l = 3 * length l.cursor.now + 1

abbrev pub decreases-conditions : goal.decreases-conditions
decreases-conditions l = 3 * length l.cursor.now

abbrev pub invariant-conditions-parts : goal.invariant-conditions-parts
invariant-conditions-parts l = record {
  same : until (nested condition_rest) l.parts l.cursor ≡ until (nested condition_rest) l.fn.parts l.fn.cursor;
  shorter : length l.cursor ≤ length l.fn.cursor;
}

abbrev pub decreases-conditions-parts : goal.decreases-conditions-parts
decreases-conditions-parts l = length l.cursor
