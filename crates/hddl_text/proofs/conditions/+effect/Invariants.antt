use Rattle.std.proofs.Common.{◌≡◌, ◌≤◌, ◌+◌, ◌*◌, length}
use Rattle.hddl_words.specs.Reading.{until}
use Rattle.hddl_text.specs.Readers.{nested, effect_rest}
use Rattle.hddl_text.proofs.conditions.+effect.Given as goal

abbrev pub decreases-effect_rest : goal.decreases-effect_rest
decreases-effect_rest l = 3 * length l.cursor.now

abbrev pub decreases-nested_effect : goal.decreases-nested_effect
decreases-nested_effect l = 3 * length l.cursor.now + 1

abbrev pub decreases-effects : goal.decreases-effects
decreases-effects l = 3 * length l.cursor.now

abbrev pub invariant-effects-parts : goal.invariant-effects-parts
invariant-effects-parts l = record {
  same : until (nested effect_rest) l.parts l.cursor ≡ until (nested effect_rest) l.fn.parts l.fn.cursor;
  shorter : length l.cursor ≤ length l.fn.cursor;
}

abbrev pub decreases-effects-parts : goal.decreases-effects-parts
decreases-effects-parts l = length l.cursor
