use Rattle.std.proofs.Common.{◌≡◌, take, length}
use Rattle.plan_text.specs.Reached.{AreAdded, AreMet}
use Rattle.plan_text.proofs.walk.meet.Given as goal

abbrev pub invariant-loop-line : goal.invariant-loop-line
invariant-loop-line l = record {
  met : AreMet l.met.items l.lines.items;
  added : AreAdded l.fn.lines.items l.lines.items (take l.line-index l.more);
  size : length l.met.items ≡ length l.fn.met.items;
}
