use Rattle.std.proofs.Common.{◌≡◌, ◌+◌, ◌-◌, map, All}
use Rattle.word_machine.specs.Answer.{NoneFinishesBefore}
use Rattle.word_machine.specs.Dive.{AreAllBelow}
use Rattle.word_machine.proofs.deepen.search_growing.Given as goal

-- the tables are this machine's, and have the initial configurations; and no word finishes before the bound
abbrev pub invariant-loop-growth : goal.invariant-loop-growth
invariant-loop-growth g l =
    let meaning = g.M.Machine.meaning l.machine l.tables in
    record {
      own : g.M.Machine.owns l.machine l.tables;
      starts : All meaning.knows l.initials;
      none : NoneFinishesBefore (g.M.Machine.words l.machine) l.growth.least;
      below : AreAllBelow (g.M.Machine.words l.machine) (g.M.Machine.belongs l.machine) (g.M.Machine.estimate l.machine) meaning l.growth.least l.closed.keys;
      becomes : g.W.Watch.becomes l.fn.watch l.watch;
      initials : map meaning.point l.initials ≡ (g.M.Machine.words l.machine).initials;
    }

abbrev pub decreases-loop-growth : goal.decreases-loop-growth
decreases-loop-growth g l = l.bounds.nodes + 1 - l.growth.least
