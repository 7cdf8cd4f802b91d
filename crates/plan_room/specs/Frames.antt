-- Lines whose finish is asked: how far their networks are tried, and how they stand above one another.
use Rattle.std.specs.Prelude.{◌≡◌, ℕ, zero, suc, ◌+◌, ◌≤◌, ◌<◌, Bool, true, false, ltb, List, [], ◌∷◌, length, Option, Some, None, slice_get, IsPermutation, ⊤}
use Rattle.std.specs.Cow.{cow_slice_items}
use Rattle.std.specs.Global.{Box}
use Rattle.htn_model.specs.Instance.{Instance}
use Rattle.htn_model.specs.Problem.{Network}
use Rattle.htn_model.specs.Fits.{PlanTree, action_at, decomposition, PlanTrees, no_plans, plan, NetworkFits}
use Rattle.plan_room.specs.Placing.{IsSequence}
use Rattle.plan_room.specs.Matching.{IsBeaten, IsFound}
use Rattle.plan_room.specs.Trials.{IsTried}
use Rattle.plan_room.specs.Bound.{IsLower}
use Rattle.plan_room.specs.Lines.{Lines, AreCandidates, networks_of, plans_of}
use Rattle.plan_room.specs.Seats.{children_of, AreAsMany, IsOneOf, seating_of}
use Rattle.plan_room.specs.Links.{AreLinked}
use Rattle.plan_room.specs.Memo.{known}
use Rattle.plan_room.specs.declared.rooms.Question.{Question}
use Rattle.plan_room.specs.declared.memo.Memo.{Memo}
use Rattle.plan_room.specs.declared.frames.Work.{Work}
use Rattle.plan_room.specs.declared.frames.Frame.{Frame}

-- the number of a decomposition line, or of the root, past all lines
abbrev pub IsLine : Lines → ℕ → Type 0
IsLine l i = (l.actions ≤ i) × (i ≤ l.count)

-- the network has room for the children between two gaps
abbrev pub NetworkHasRoom : Lines → List ℕ → Network → ℕ → ℕ → Type 0
NetworkHasRoom l children network g h = NetworkFits l.naming l.problem l.states network (plans_of l.plan_of children) g h

-- how far the matchings of a network are tried, with the children in some order
abbrev pub IsWork : Lines → List ℕ → Network → ℕ → Option Work → Type 0
IsWork l children network gap None = ⊤
IsWork l children network gap (Some work) = IsPermutation children work.children.items × IsLower l children gap work.bound.end
    × AreAsMany l work.children.items network × IsSequence network.order work.sequence.items
    × AreLinked (seating_of l work.children.items network work.sequence.items gap) (length work.children.items) work.links
    × IsTried (seating_of l work.children.items network work.sequence.items gap) work.trial

-- one of the first networks has room up to gap h
abbrev pub SomeFits : Lines → List ℕ → List Instance → ℕ → ℕ → ℕ → Type 0
SomeFits l children instances number g h =
    (i : ℕ) × (i < number) × (instance : Instance) × (slice_get instances i ≡ Some instance) × NetworkHasRoom l children instance.network g h

-- the stored work, if there is any
abbrev pub unboxed : Option (Box Work) → Option Work
unboxed None = None
unboxed (Some kept) = Some kept.value

-- a frame asks about a line, over networks that are those of the line
pub record IsFrame (l : Lines) (frame : Frame) : Type 0 where
  pub line : IsLine l frame.question.line
  pub within : frame.question.gap ≤ l.actions
  pub candidates : AreCandidates l (IsOneOf l frame.question.line) (children_of l frame.question.line) (networks_of (cow_slice_items frame.networks))
  pub low : frame.tried ≤ length (cow_slice_items frame.networks)
  -- the best finish is that of the networks that were tried
  pub found : IsFound (SomeFits l (children_of l frame.question.line) (cow_slice_items frame.networks) frame.tried frame.question.gap) l.actions frame.best
  pub none_better : (h : ℕ) → h ≤ l.actions → SomeFits l (children_of l frame.question.line) (cow_slice_items frame.networks) frame.tried frame.question.gap h → IsBeaten frame.best h
  -- no network at all can have finished before the gap `least`
  pub lower : IsLower l (children_of l frame.question.line) frame.question.gap frame.least
  pub work : (instance : Instance) → slice_get (cow_slice_items frame.networks) frame.tried ≡ Some instance
      → IsWork l (children_of l frame.question.line) instance.network frame.question.gap (unboxed frame.work)

-- ## The lines on a way down

abbrev mutual
  -- how many lines a plan has
  pub plan_size : PlanTree → ℕ
  plan_size (action_at g i) = 1
  plan_size (decomposition t method plans) = suc (plans_size plans)

  -- the number of nodes of plan trees
  pub plans_size : PlanTrees → ℕ
  plans_size no_plans = 0
  plans_size (plan p plans) = plan_size p + plans_size plans

-- the number of nodes below a line, or below the roots
abbrev pub size_at : Bool → Lines → ℕ → ℕ
size_at true l i = plan_size (l.plan_of i)
size_at false l i = suc (plans_size (plans_of l.plan_of l.roots))

-- the number of nodes below a line; behind the last line stand the roots
abbrev pub line_size : Lines → ℕ → ℕ
line_size l i = size_at (ltb i l.count) l i

-- each is asked of a line with fewer lines than the one before, and isn't known
abbrev pub AreStacked : Lines → Memo → ℕ → List Frame → Type 0
AreStacked l memo top [] = ⊤
AreStacked l memo top (frame ∷ frames) =
    (line_size l frame.question.line < top) × IsFrame l frame × (known memo frame.question ≡ None) × AreStacked l memo (line_size l frame.question.line) frames

-- the size of the last frame's line, or another where there is none
abbrev pub last_size : Lines → ℕ → List Frame → ℕ
last_size l top [] = top
last_size l top (frame ∷ frames) = last_size l (line_size l frame.question.line) frames

-- the first frame asks this question
abbrev pub StartsAt : Question → List Frame → Type 0
StartsAt question [] = ⊥
StartsAt question (frame ∷ frames) = frame.question ≡ question

-- the sum over the numbers below a bound
abbrev pub sum_to : (ℕ → ℕ) → ℕ → ℕ
sum_to f zero = 0
sum_to f (suc n) = sum_to f n + f n

-- 1 where nothing is there
abbrev pub one_if_none : {X : Type 0} → Option X → ℕ
one_if_none None = 1
one_if_none (Some x) = 0

-- how many questions have no answer yet
abbrev pub missing : Lines → Memo → ℕ
missing l memo = sum_to (λ i. sum_to (λ g. one_if_none (known memo (record { line = i; gap = g }))) (suc l.actions)) (suc l.count)
