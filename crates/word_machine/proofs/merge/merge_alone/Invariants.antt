use Rattle.std.proofs.Common.{◌≡◌, ◌++◌, List, map, All}
use Rattle.word_machine.specs.declared.closed.Measured.{Measured}
use Rattle.word_machine.specs.declared.closed.Origin.{Origin}
use Rattle.word_machine.specs.Answer.{measure_of}
use Rattle.word_machine.specs.Contents.{AreOffered}
use Rattle.word_machine.specs.Meaning.{IsGrown, contents_at, successor_at, successors_of}
use Rattle.word_machine.proofs.merge.merge_alone.Given as goal

-- the successors so far were offered to the list
abbrev pub invariant-loop-one : goal.invariant-loop-one
invariant-loop-one g l =
    let old = g.M.Machine.meaning l.machine l.initial.tables in
    let new = g.M.Machine.meaning l.machine l.tables in
    let left = measure_of (g.M.Machine.words l.machine) (g.M.Machine.estimate l.machine) l.measure in
    (done : List (Measured g.row.M-Reached.Denot)) × record {
      own : g.M.Machine.owns l.machine l.tables;
      grown : IsGrown old new;
      known : All new.knows l.closed.keys;
      keys : (more : List g.row.M-Configuration.Denot) × (l.closed.keys ≡ l.initial.closed.keys ++ more);
      origins : (more : List Origin) × (l.closed.origins ≡ l.initial.closed.origins ++ more);
      offered : AreOffered left l.room (contents_at new.point l.initial.closed)
          (map (successor_at old.point_of) (successors_of done)) (contents_at new.point l.closed);
      parts : done ++ l.one-iterator ≡ l.fn.batch;
    }
