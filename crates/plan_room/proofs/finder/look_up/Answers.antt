use Rattle.std.proofs.Common.{ℕ, Option, Some, None}
use Rattle.plan_room.specs.Ends.{IsEnd}
use Rattle.plan_room.specs.Lines.{Lines}
use Rattle.plan_room.specs.Memo.{answer}
use Rattle.plan_room.specs.Placing.{IsFinish}
use Rattle.plan_room.specs.Seats.{LineFits}
use Rattle.plan_room.specs.declared.rooms.Question.{Question}
use Rattle.plan_room.proofs.Stacked.{memo_noted}
use Rattle.plan_room.proofs.finder.look_up.Goals as goal

-- an end is an answer
is_answer : (l : Lines) (q : Question) (end : Option ℕ) → IsEnd l q.line q.gap end → IsFinish (LineFits l q.line q.gap) l.actions (answer q (Some end))
is_answer l q None h = h
is_answer l q (Some end) h = h

pub returns : goal.returns
returns g c =
    let l = g.L.PlanLines.lines c.args.lines.now in
    let q = c.args.question in
    memo_noted l c.line_end.new.memo c.note.new.self q c.in_ok-end.end c.in_ok-note.ensures.noted (is_answer l q c.in_ok-end.end c.in_ok-end.ensures.end) c.in_ok-end.ensures.memo
