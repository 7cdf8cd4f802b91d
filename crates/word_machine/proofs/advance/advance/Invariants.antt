use Rattle.std.proofs.Common.{◌≡◌, ◌-◌, ◌≤◌, ◌++◌, List, map, All}
use Rattle.word_machine.specs.Answer.{IsBeyond, measure_of}
use Rattle.word_machine.specs.Advance.{HasAdvanced}
use Rattle.word_machine.specs.Meaning.{IsGrown, contents_at}
use Rattle.word_machine.specs.Ranks.{IsOwned}
use Rattle.word_machine.specs.declared.closed.Origin.{Origin}
use Rattle.word_machine.proofs.advance.advance.Given as goal

-- the ranks below this one are expanded
abbrev pub invariant-loop-from : goal.invariant-loop-from
invariant-loop-from g l =
    let m = g.M.Machine.words l.machine in
    let new = g.M.Machine.meaning l.machine l.tables in
    let old = l.fn.closed in
    record {
      late : l.low ≤ l.from;
      early : l.from ≤ l.high;
      own : g.M.Machine.owns l.machine l.tables;
      grown : IsGrown (g.M.Machine.meaning l.machine l.fn.tables) new;
      known : All (IsOwned new (g.M.Machine.belongs l.machine)) l.closed.keys;
      advanced : HasAdvanced m (IsBeyond m (g.M.Machine.estimate l.machine) l.horizon) (measure_of m (g.M.Machine.estimate l.machine) l.horizon.measure) l.room (map new.point old.keys) l.low l.from (contents_at new.point old) (contents_at new.point l.closed);
      keys : (more : List g.row.M-Configuration.Denot) × (l.closed.keys ≡ old.keys ++ more);
      origins : (more : List Origin) × (l.closed.origins ≡ old.origins ++ more);
      becomes : g.W.Watch.becomes l.fn.watch l.watch;
    }

abbrev pub decreases-loop-from : goal.decreases-loop-from
decreases-loop-from g l = l.high - l.from
