-- The lines on a way down: one more, one less, and an answer to the last.
use Rattle.std.proofs.Common.{◌≡◌, ℕ, ◌≤◌, ◌<◌, Bool, true, false, cond, List, [], ◌∷◌, ◌++◌, length, Option, Some, None, sym, refl, ap, ◌∙◌, subst, arith}
use Rattle.plan_room.specs.Placing.{IsFinish}
use Rattle.plan_room.specs.Lines.{Lines}
use Rattle.plan_room.specs.Memo.{known, answer, IsMemo}
use Rattle.plan_room.specs.Questions.{question_eq, question_eq-decides}
use Rattle.plan_room.specs.Seats.{LineFits}
use Rattle.plan_room.specs.Frames.{IsFrame, AreStacked, last_size, line_size, StartsAt}
use Rattle.plan_room.specs.declared.rooms.Question.{Question}
use Rattle.plan_room.specs.declared.memo.Memo.{Memo}
use Rattle.plan_room.specs.declared.frames.Frame.{Frame}

module _ (l : Lines) where
  -- the size of a line that is added last
  pub last_pushed : (top : ℕ) (frames : List Frame) (frame : Frame) → last_size l top (frames ++ frame ∷ []) ≡ line_size l frame.question.line
  last_pushed top [] frame = refl
  last_pushed top (f ∷ frames) frame = last_pushed (line_size l f.question.line) frames frame

  -- the last line is no larger than the first may be
  last_low : (memo : Memo) (top : ℕ) (frames : List Frame) → AreStacked l memo top frames → last_size l top frames ≤ top
  last_low memo top [] stacked = omega arith
  last_low memo top (f ∷ frames) stacked = let more = last_low memo (line_size l f.question.line) frames stacked.3 in let less = stacked.0 in omega arith

  -- and smaller, if there is one
  pub last_lower : (memo : Memo) (top : ℕ) (frames : List Frame) → AreStacked l memo top frames → 0 < length frames → last_size l top frames < top
  last_lower memo top [] stacked some = absurd (omega arith)
  last_lower memo top (f ∷ frames) stacked some = let more = last_low memo (line_size l f.question.line) frames stacked.3 in let less = stacked.0 in omega arith

  -- a smaller line whose question isn't known may be added
  pub pushed : (memo : Memo) (top : ℕ) (frames : List Frame) (frame : Frame) → AreStacked l memo top frames → line_size l frame.question.line < last_size l top frames → IsFrame l frame
      → known memo frame.question ≡ None → AreStacked l memo top (frames ++ frame ∷ [])
  pushed memo top [] frame stacked less is unknown = (less, is, unknown, tt)
  pushed memo top (f ∷ frames) frame stacked less is unknown = (stacked.0, stacked.1, stacked.2, pushed memo (line_size l f.question.line) frames frame stacked.3 less is unknown)

  -- the last line may be taken off
  pub popped : (memo : Memo) (top : ℕ) (frames : List Frame) (frame : Frame) → AreStacked l memo top (frames ++ frame ∷ [])
      → AreStacked l memo top frames × (line_size l frame.question.line < last_size l top frames) × IsFrame l frame × (known memo frame.question ≡ None)
  popped memo top [] frame stacked = (tt, stacked.0, stacked.1, stacked.2)
  popped memo top (f ∷ frames) frame stacked =
      let (below, less, is, unknown) = popped memo (line_size l f.question.line) frames frame stacked.3 in
      ((stacked.0, stacked.1, stacked.2, below), less, is, unknown)

  -- the first question stays as lines are added
  pub starts_pushed : (question : Question) (frames : List Frame) (frame : Frame) → StartsAt question frames → StartsAt question (frames ++ frame ∷ [])
  starts_pushed question [] frame starts = absurd starts
  starts_pushed question (f ∷ frames) frame starts = starts

  -- and as they are taken off, down to the first
  pub starts_popped : (question : Question) (frames : List Frame) (frame : Frame) → StartsAt question (frames ++ frame ∷ []) → (frames ≡ [] → frame.question ≡ question) × (0 < length frames → StartsAt question frames)
  starts_popped question [] frame starts = ((λ e. starts), (λ some. absurd (omega arith)))
  starts_popped question (f ∷ frames) frame starts = ((λ e. absurd cc), (λ some. starts))

  -- a first frame has another in its place, of the same question
  pub starts_again : (question : Question) (frames : List Frame) (frame other : Frame) → other.question ≡ frame.question → StartsAt question (frames ++ frame ∷ []) → StartsAt question (frames ++ other ∷ [])
  starts_again question [] frame other same starts = same ∙ starts
  starts_again question (f ∷ frames) frame other same starts = starts

  -- ## An answer

  module _ (old new : Memo) (question : Question) (end : Option ℕ) (noted : (q : Question) → known new q ≡ cond (question_eq question q) (Some end) (known old q)) where
    -- other questions are known as they were
    other_known : (q : Question) → (question ≡ q → ⊥) → known new q ≡ known old q
    other_known q other = noted q ∙ by (question_eq question q) refl
      where
        by : (b : Bool) → question_eq question q ≡ b → cond (question_eq question q) (Some end) (known old q) ≡ known old q
        by true e = absurd (other ((question_eq-decides question q).0 e))
        by false e = ap (λ b. cond b (Some end) (known old q)) e

    -- it is none of those that are asked before
    pub still_stacked : (top : ℕ) (frames : List Frame) → line_size l question.line < last_size l top frames → AreStacked l old top frames → AreStacked l new top frames
    still_stacked top [] less stacked = tt
    still_stacked top (f ∷ frames) less stacked =
        let low = last_low old (line_size l f.question.line) frames stacked.3 in (
          stacked.0,
          stacked.1,
          other_known f.question (λ e. let same = ap (λ (q : Question). line_size l q.line) e in omega arith) ∙ stacked.2,
          still_stacked (line_size l f.question.line) frames less stacked.3,
        )

    -- what is known stays right with one answer more
    pub memo_noted : IsFinish (LineFits l question.line question.gap) l.actions (answer question (Some end)) → IsMemo l old → IsMemo l new
    memo_noted is memo q = by (question_eq question q) refl
      where
        by : (b : Bool) → question_eq question q ≡ b → IsFinish (LineFits l q.line q.gap) l.actions (answer q (known new q))
        by true e =
            let same : question ≡ q = (question_eq-decides question q).0 e in
            subst (λ o. IsFinish (LineFits l q.line q.gap) l.actions (answer q o)) (sym (noted q ∙ ap (λ b. cond b (Some end) (known old q)) e))
            (subst (λ p. IsFinish (LineFits l p.line p.gap) l.actions (answer p (Some end))) same is)
        by false e = subst (λ o. IsFinish (LineFits l q.line q.gap) l.actions (answer q o)) (sym (noted q ∙ ap (λ b. cond b (Some end) (known old q)) e)) (memo q)
