use Rattle.std.proofs.lemmas.List.Sorted.{searched}
use Rattle.plan_lines.proofs.Truths.{found_passed, missing_passed, rising_up}
use Rattle.plan_lines.proofs.history.count_passed.Goals as goal

pub returns-in-Ok : goal.returns-in-Ok
returns-in-Ok c =
    let turns = c.args.turns.now in
    let rising = c.requires.1 in
    let found = rw c.in-Ok.is at (searched turns c.args.gap c.binary_search.result c.binary_search.ensures.position (rising_up c.requires.0 turns rising)) in
    found_passed c.requires.0 turns c.args.gap c.in-Ok.place rising found

pub returns-in-Err : goal.returns-in-Err
returns-in-Err c =
    let turns = c.args.turns.now in
    let found = rw c.in-Err.is at (searched turns c.args.gap c.binary_search.result c.binary_search.ensures.position (rising_up c.requires.0 turns c.requires.1)) in
    missing_passed turns c.args.gap c.in-Err.place found
