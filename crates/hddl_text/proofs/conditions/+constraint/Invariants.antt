use Rattle.std.proofs.Common.{◌≡◌, ◌≤◌, ◌+◌, ◌*◌, length}
use Rattle.hddl_words.specs.Reading.{until}
use Rattle.hddl_text.specs.Readers.{nested, constraint_rest}
use Rattle.hddl_text.proofs.conditions.+constraint.Given as goal

abbrev pub decreases-constraint_rest : goal.decreases-constraint_rest
decreases-constraint_rest l = 3 * length l.cursor.now

abbrev pub decreases-nested_constraint : goal.decreases-nested_constraint
decreases-nested_constraint l = 3 * length l.cursor.now + 1

abbrev pub decreases-constraints : goal.decreases-constraints
decreases-constraints l = 3 * length l.cursor.now

abbrev pub invariant-constraints-parts : goal.invariant-constraints-parts
invariant-constraints-parts l = record {
  same : until (nested constraint_rest) l.parts l.cursor ≡ until (nested constraint_rest) l.fn.parts l.fn.cursor;
  shorter : length l.cursor ≤ length l.fn.cursor;
}

abbrev pub decreases-constraints-parts : goal.decreases-constraints-parts
decreases-constraints-parts l = length l.cursor
