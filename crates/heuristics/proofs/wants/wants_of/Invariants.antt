use Rattle.std.proofs.Common.{take}
use Rattle.htn_task.specs.Literals.{literals_of}
use Rattle.state_table.specs.Table.{IsLater}
use Rattle.heuristics.specs.StoredNeeds.{AreWants}
use Rattle.heuristics.proofs.wants.wants_of.Given as goal

-- the literals so far
abbrev pub invariant-loop-literal : goal.invariant-loop-literal
invariant-loop-literal l = record {
  later : IsLater l.initial.atoms l.atoms;
  wants : AreWants l.needs l.atoms l.wants.items (literals_of (take l.literal-index l.literals));
}
