use Rattle.std.proofs.Common.{sym, subst, All}
use Rattle.word_machine.specs.Dive.{IsVisited}
use Rattle.word_machine.proofs.dive.keep_starts.Goals as goal
use Rattle.word_machine.proofs.dive.keep_starts.Goals.{in-Some+in_ok-keep_start-2, in_default}

pub keep_start-requires-clause-visited : goal.keep_start-requires-clause-visited
keep_start-requires-clause-visited g c = λ _ _.
    let machine = c.args.machine.now in
    let visited = IsVisited (g.M.Machine.words machine) (g.M.Machine.belongs machine) (g.M.Machine.meaning machine c.args.tables.now) in
    let x = c.initial-item.result in
    subst visited (sym c.initial-item.is) (c.requires.initials c.loop-initial.initial-index x c.loop-initial-test.true)

pub loop-rank-preserved : goal.loop-rank-preserved
loop-rank-preserved g c =
    let machine = c.args.machine.now in
    let visited = IsVisited (g.M.Machine.words machine) (g.M.Machine.belongs machine) (g.M.Machine.meaning machine c.args.tables.now) in
    elim c.match-get.branch [
      | in-Some+in_ok-keep_start-2 w ↦ subst (λ f. All visited f.kept.keys) (sym w.frontier-is) w.in_ok-keep_start-2.ensures
      | in_default w ↦ subst (λ f. All visited f.kept.keys) (sym w.frontier-is) c.loop-rank.invariant
    ]
