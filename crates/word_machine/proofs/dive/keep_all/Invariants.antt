use Rattle.std.proofs.Common.{◌≡◌, ◌++◌, All}
use Rattle.std.specs.Vec.Iter.{into_iter_items}
use Rattle.word_machine.specs.Meaning.{IsGrown}
use Rattle.word_machine.specs.Dive.{IsVisited}
use Rattle.word_machine.proofs.dive.keep_all.Given as goal

-- each that was kept is visited, and the successors so far were
abbrev pub invariant-loop-one : goal.invariant-loop-one
invariant-loop-one g l =
    let new = g.M.Machine.meaning l.machine l.tables in
    record {
      own : g.M.Machine.owns l.machine l.tables;
      grown : IsGrown (g.M.Machine.meaning l.machine l.initial.tables) new;
      kept : All (IsVisited (g.M.Machine.words l.machine) (g.M.Machine.belongs l.machine) new) l.frontier.kept.keys;
      parts : l.yielded ++ into_iter_items l.one-iterator ≡ l.fn.batch.items;
    }
