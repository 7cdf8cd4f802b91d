use Rattle.std.proofs.Common.{◌≡◌, drop}
use Rattle.word_machine.specs.Answer.{measure_of}
use Rattle.word_machine.specs.Contents.{offer_all, initial_successors}
use Rattle.word_machine.proofs.merge.offer_initials.Given as goal

-- those so far were offered, and those to come lead to what all lead to
abbrev pub invariant-loop-i : goal.invariant-loop-i
invariant-loop-i g l =
    let left = λ (c : g.row.M-Configuration.Denot). measure_of (g.M.Machine.words l.machine) (g.M.Machine.estimate l.machine) l.measure ((g.M.Machine.meaning l.machine l.tables).point c) in
    offer_all g.M.Configuration.PartialEq.eq left l.room l.closed (initial_successors l.i (drop l.i l.initials))
    ≡ offer_all g.M.Configuration.PartialEq.eq left l.room l.fn.closed (initial_successors 0 l.initials)
