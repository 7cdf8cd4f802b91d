use Rattle.std.proofs.Common.{All}
use Rattle.word_machine.specs.Dive.{IsVisited}
use Rattle.word_machine.specs.Meaning.{IsGrown}
use Rattle.word_machine.proofs.dive.dive_from.Given as goal

-- each that was kept is visited
abbrev pub invariant-loop-turn : goal.invariant-loop-turn
invariant-loop-turn g l = record {
  own : g.M.Machine.owns l.machine l.tables;
  grown : IsGrown (g.M.Machine.meaning l.machine l.fn.tables) (g.M.Machine.meaning l.machine l.tables);
  kept : All (IsVisited (g.M.Machine.words l.machine) (g.M.Machine.belongs l.machine) (g.M.Machine.meaning l.machine l.tables)) l.frontier.kept.keys;
  becomes : g.W.Watch.becomes l.fn.watch l.watch;
}
