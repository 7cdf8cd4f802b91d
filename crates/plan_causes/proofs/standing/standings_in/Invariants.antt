use Rattle.std.proofs.Common.{map, take}
use Rattle.htn_task.specs.Literals.{literals_of}
use Rattle.plan_causes.specs.Causes.{AreStandings, StandsIn}
use Rattle.plan_causes.proofs.standing.standings_in.Given as goal

abbrev pub invariant-loop-literal : goal.invariant-loop-literal
invariant-loop-literal l = AreStandings (StandsIn l.turns l.gap) (literals_of (take l.literal-index l.literals)) l.standings.items
