use Rattle.std.proofs.Common.{◌≡◌, ◌++◌, List, length, map, All}
use Rattle.word_machine.specs.declared.closed.Measured.{Measured}
use Rattle.word_machine.specs.Answer.{measure_of}
use Rattle.word_machine.specs.Aside.{IsAside, with_aside}
use Rattle.word_machine.specs.Contents.{AreOffered}
use Rattle.word_machine.specs.Meaning.{IsGrown, contents_at, successor_at, successors_of}
use Rattle.word_machine.proofs.merge.merge_shared.Given as goal

-- the successors so far were offered to the list with those that are put aside
abbrev pub invariant-loop-one : goal.invariant-loop-one
invariant-loop-one g l =
    let old = g.M.Machine.meaning l.machine l.initial.tables in
    let new = g.M.Machine.meaning l.machine l.tables in
    let left = measure_of (g.M.Machine.words l.machine) (g.M.Machine.estimate l.machine) l.measure in
    (done : List (Measured g.row.M-Reached.Denot)) × record {
      own : g.M.Machine.owns l.machine l.tables;
      grown : IsGrown old new;
      known : All new.knows l.closed.keys;
      keys : l.closed.keys ≡ l.initial.closed.keys;
      origins : l.closed.origins ≡ l.initial.closed.origins;
      aside : IsAside new left l.room (length l.closed.keys) l.fits;
      offered : AreOffered left l.room (contents_at new.point l.initial.closed)
          (map (successor_at old.point_of) (successors_of done))
          (contents_at new.point (with_aside g.M.Configuration.PartialEq.eq l.closed l.fits));
      parts : done ++ l.one-iterator ≡ l.fn.batch;
    }
