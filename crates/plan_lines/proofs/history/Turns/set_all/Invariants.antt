use Rattle.std.proofs.Common.{take}
use Rattle.plan_lines.specs.Turns.{IsHistory, AreTurned}
use Rattle.plan_lines.proofs.history.Turns.set_all.Given as goal

abbrev pub invariant-loop-atom : goal.invariant-loop-atom
invariant-loop-atom l = record {
  history : IsHistory l.self;
  turned : AreTurned l.fn.self l.self (take l.atom-index l.atoms) l.value;
}
