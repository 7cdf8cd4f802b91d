-- What is known of how early lines can have finished, and which questions are open.
use Rattle.std.specs.Prelude.{◌≡◌, ℕ, ◌≤◌, ◌<◌, List, length, get_or, Option, Some, None}
use Rattle.indexmap.specs.IndexMap.{get}
use Rattle.plan_room.specs.Placing.{IsFinish}
use Rattle.plan_room.specs.Lines.{Lines}
use Rattle.plan_room.specs.Seats.{LineFits}
use Rattle.plan_room.specs.Questions.{question_eq}
use Rattle.plan_room.specs.declared.memo.Memo.{Memo}
use Rattle.plan_room.specs.declared.rooms.Question.{Question}
use Rattle.plan_room.specs.declared.rooms.Finish.{Finish}
use Rattle.plan_room.specs.declared.rooms.Finish.TheVariants.{Unknown, Never, At}

-- the end that is noted for a question
abbrev pub known : Memo → Question → Option (Option ℕ)
known memo q = get question_eq memo.ends q

-- what is known of a question, as a finish
abbrev pub answer : Question → Option (Option ℕ) → Finish
answer q None = Unknown q
answer q (Some None) = Never
answer q (Some (Some h)) = At h

-- what is noted is so
abbrev pub IsMemo : Lines → Memo → Type 0
IsMemo l memo = (q : Question) → IsFinish (LineFits l q.line q.gap) l.actions (answer q (known memo q))

-- a decomposition line among these, from a gap on, of which nothing is noted
pub record IsOpenBelow (l : Lines) (memo : Memo) (children : List ℕ) (q : Question) : Type 0 where
  pub place : ℕ
  pub low : place < length children
  pub is : get_or children place 0 ≡ q.line
  pub no_action : l.actions ≤ q.line
  pub within : q.gap ≤ l.actions
  pub unknown : known memo q ≡ None

-- the question of a decomposition line from a gap on, of which nothing is noted
pub record IsOpenAt (l : Lines) (memo : Memo) (line gap : ℕ) (q : Question) : Type 0 where
  pub line_is : q.line ≡ line
  pub gap_is : q.gap ≡ gap
  pub no_action : l.actions ≤ line
  pub unknown : known memo q ≡ None
