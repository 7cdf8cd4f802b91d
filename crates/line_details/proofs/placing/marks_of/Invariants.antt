use Rattle.std.proofs.Common.{◌≡◌, length, take}
use Rattle.plan_text.specs.Reached.{AreMet}
use Rattle.line_details.proofs.placing.marks_of.Given as goal

abbrev pub invariant-loop-position : goal.invariant-loop-position
invariant-loop-position l = record {
  met : AreMet l.marks.items (take l.position-index l.positions);
  size : length l.marks.items ≡ l.count;
}
