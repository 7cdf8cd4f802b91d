-- The lines on a way down once the last one has asked for another, or has its answer.
use Rattle.std.proofs.Common.{◌≡◌, ℕ, suc, ◌+◌, ◌*◌, ◌≤◌, ◌<◌, cond, List, [], ◌∷◌, ◌++◌, length, Option, Some, None, sym, ap, ◌∙◌, subst, arith}
use Rattle.std.proofs.Math.Nat.{mul-le-mul_right}
use Rattle.plan_room.specs.Placing.{IsFinish}
use Rattle.plan_room.specs.Lines.{Lines, AreLines}
use Rattle.plan_room.specs.Memo.{known, answer, IsMemo, IsOpenBelow}
use Rattle.plan_room.specs.Questions.{question_eq}
use Rattle.plan_room.specs.Seats.{children_of, LineFits}
use Rattle.plan_room.specs.Frames.{IsLine, IsFrame, AreStacked, last_size, line_size, missing}
use Rattle.plan_room.specs.declared.rooms.Question.{Question}
use Rattle.plan_room.specs.declared.memo.Memo.{Memo}
use Rattle.plan_room.specs.declared.frames.Frame.{Frame}
use Rattle.plan_room.proofs.Unrolled.{child_low, smaller}
use Rattle.plan_room.proofs.Missing.{missing_less}
use Rattle.plan_room.proofs.Stacked.{last_pushed, last_lower, pushed, popped, still_stacked, memo_noted}

module _ (l : Lines) (are : AreLines l) (memo : Memo) (top : ℕ) (rest : List Frame) (frame after : Frame) (same : after.question ≡ frame.question)
    (stacked : AreStacked l memo top (rest ++ frame ∷ [])) (is_after : IsFrame l after) where
  -- the lines above, and what the last one is
  parts : AreStacked l memo top rest × (line_size l frame.question.line < last_size l top rest) × IsFrame l frame × (known memo frame.question ≡ None)
  parts = popped l memo top rest frame stacked

  -- a frame that goes on is of the same line
  same_size : line_size l after.question.line ≡ line_size l frame.question.line
  same_size = ap (λ (q : Question). line_size l q.line) same

  -- ## A question

  module _ (question : Question) (asked : IsOpenBelow l memo (children_of l frame.question.line) question) where
    -- the question is of a line
    pub asked_low : question.line < l.count
    asked_low = subst (λ c. c < l.count) asked.is (child_low l are frame.question.line asked.place parts.2.line asked.low)

    -- of a decomposition line
    pub asked_line : IsLine l question.line
    asked_line = (asked.no_action, (let e = asked_low in omega arith))

    -- which is smaller than the last one
    less : line_size l question.line < line_size l frame.question.line
    less = subst (λ c. line_size l c < line_size l frame.question.line) asked.is (smaller l are frame.question.line asked.place parts.2.line asked.low)

    module _ (next : Frame) (next_is : next.question ≡ question) (is_next : IsFrame l next) where
      next_size : line_size l next.question.line ≡ line_size l question.line
      next_size = ap (λ (q : Question). line_size l q.line) next_is

      pub both_stacked : AreStacked l memo top ((rest ++ after ∷ []) ++ next ∷ [])
      both_stacked =
          pushed l memo top (rest ++ after ∷ []) next
          (pushed l memo top rest after parts.0 (let e = same_size in let f = parts.1 in omega arith) is_after (ap (known memo) same ∙ parts.3))
          (let e = last_pushed l top rest after in let f = same_size in let g = next_size in let h = less in omega arith) is_next (ap (known memo) next_is ∙ asked.unknown)

      pub deeper : last_size l top ((rest ++ after ∷ []) ++ next ∷ []) < last_size l top (rest ++ frame ∷ [])
      deeper = (let e = last_pushed l top (rest ++ after ∷ []) next in let f = last_pushed l top rest frame in let g = next_size in let h = less in omega arith)

  -- ## An answer

  module _ (new : Memo) (end : Option ℕ) (noted : (q : Question) → known new q ≡ cond (question_eq after.question q) (Some end) (known memo q)) where
    -- the lines above stay as they are
    pub rest_stacked : AreStacked l new top rest
    rest_stacked = still_stacked l memo new after.question end noted top rest (let e = same_size in let f = parts.1 in omega arith) parts.0

    -- what is known stays right with one answer more
    pub more_known : IsFinish (LineFits l frame.question.line frame.question.gap) l.actions (answer frame.question (Some end)) → IsMemo l memo → IsMemo l new
    more_known is = memo_noted l memo new after.question end noted (subst (λ q. IsFinish (LineFits l q.line q.gap) l.actions (answer q (Some end))) (sym same) is)

    -- and less is left
    pub fewer_left : 0 < length rest → missing l new * top + last_size l top rest < missing l memo * top + last_size l top (rest ++ frame ∷ [])
    fewer_left some =
        let lower = last_lower l memo top rest parts.0 some in
        let e = ap (λ (q : Question). q.line) same in
        let f = ap (λ (q : Question). q.gap) same in
        let line = parts.2.line.1 in
        let within = parts.2.within in
        let fewer = missing_less l memo new after.question end noted (ap (known memo) same ∙ parts.3) (omega arith) (omega arith) in
        let whole : suc (missing l new) * top ≤ missing l memo * top = mul-le-mul_right top (omega arith) in
        let split : suc (missing l new) * top ≡ top + missing l new * top = omega arith in
        omega arith
