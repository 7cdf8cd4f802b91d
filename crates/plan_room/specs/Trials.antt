-- The steps of the search among the matchings, and how many are left at most.
use Rattle.std.specs.Prelude.{ℕ, zero, suc, ◌+◌, ◌-◌, ◌*◌, ◌≤◌, ◌<◌, List, length, get_or, ⊤}
use Rattle.plan_room.specs.Matching.{Seating, AgreeBelow, HasRoomWith, IsBeaten, IsNoted, IsSearched, IsSeated}
use Rattle.plan_room.specs.declared.rooms.Question.{Question}
use Rattle.plan_room.specs.declared.rooms.Finish.{Finish}
use Rattle.plan_room.specs.declared.rooms.Finish.TheVariants as finishes
use Rattle.plan_room.specs.declared.matching.Trial.{Trial}
use Rattle.plan_room.specs.declared.matching.Step.{Step}
use Rattle.plan_room.specs.declared.matching.Step.TheVariants.{Onward, Unknown, Over}

-- the steps below a position, with that many after it
abbrev pub weight : ℕ → ℕ → ℕ
weight count zero = 1
weight count (suc d) = 1 + count * (weight count d + 1)

-- from a choice on
abbrev pub level : ℕ → ℕ → ℕ → ℕ
level count zero next = 1
level count (suc d) next = 1 + (count - next) * (weight count d + 1)

-- the steps after those below the first choices
abbrev pub behind : ℕ → ℕ → List ℕ → ℕ → ℕ
behind count size chosen zero = 0
behind count size chosen (suc i) = behind count size chosen i + ((count - suc (get_or chosen i 0)) * (weight count (size - suc i) + 1) + 1)

-- how much of a search among matchings is left
abbrev pub left : ℕ → ℕ → List ℕ → ℕ → ℕ → ℕ
left count size chosen depth next = behind count size chosen depth + level count (size - depth) next

-- how much of a trial is left
abbrev pub left_of : Seating → Trial → ℕ
left_of w trial = left w.count (length w.sequence) trial.chosen.items trial.depth trial.next

-- what isn't known is open
abbrev pub IsAsked : (Question → Type 0) → Finish → Type 0
IsAsked Asks (finishes.Unknown question) = Asks question
IsAsked Asks finishes.Never = ⊤
IsAsked Asks (finishes.At h) = ⊤

-- the search stands where its trial says, and what the trial notes of it is right
pub record IsTried (w : Seating) (trial : Trial) : Type 0 where
  pub searched : IsSearched w trial.chosen.items trial.finishes.items trial.depth trial.next trial.best
  pub noted : IsNoted w trial.chosen.items trial.finishes.items trial.highs.items trial.taken.items trial.depth

-- no matching with the chosen ones first, and then the next choice or a later one, finishes before the best
abbrev pub AreDismissed : Seating → Trial → Type 0
AreDismissed w trial =
    (m : ℕ → ℕ) → IsSeated w m → (h : ℕ) → h ≤ w.last → HasRoomWith w m h
    → AgreeBelow w.sequence trial.chosen.items trial.depth m → trial.next ≤ m (get_or w.sequence trial.depth 0) → IsBeaten trial.best h

-- no matching finishes before the best
abbrev pub AreOver : Seating → Trial → Type 0
AreOver w trial = (m : ℕ → ℕ) → IsSeated w m → (h : ℕ) → h ≤ w.last → HasRoomWith w m h → IsBeaten trial.best h

-- what a step of a trial says: less is left, a question is asked, or all were tried
abbrev pub StepSays : Seating → (Question → Type 0) → Trial → Trial → Step → Type 0
StepSays w Asks old new Onward = left_of w new < left_of w old
StepSays w Asks old new (Unknown question) = Asks question
StepSays w Asks old new Over = AreOver w new
