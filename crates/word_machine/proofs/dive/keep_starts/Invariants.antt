use Rattle.std.proofs.Common.{All}
use Rattle.word_machine.specs.Dive.{IsVisited}
use Rattle.word_machine.proofs.dive.keep_starts.Given as goal

-- each that was kept is visited
abbrev pub invariant-loop-initial : goal.invariant-loop-initial
invariant-loop-initial g l =
    All (IsVisited (g.M.Machine.words l.machine) (g.M.Machine.belongs l.machine) (g.M.Machine.meaning l.machine l.tables)) l.frontier.kept.keys

-- and each from which one was left out
abbrev pub invariant-loop-rank : goal.invariant-loop-rank
invariant-loop-rank g l =
    All (IsVisited (g.M.Machine.words l.machine) (g.M.Machine.belongs l.machine) (g.M.Machine.meaning l.machine l.tables)) l.frontier.kept.keys
