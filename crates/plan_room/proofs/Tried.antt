-- The networks of a line, one after another.
use Rattle.std.proofs.Common.{◌≡◌, ℕ, ◌+◌, ◌≤◌, ◌<◌, ◌⊎◌, inl, inr, List, length, Option, Some, None, slice_get, refl, subst, arith}
use Rattle.std.specs.Prelude.{MatchOption, ⊤}
use Rattle.std.specs.Cow.{cow_slice_items}
use Rattle.std.specs.Global.{Box}
use Rattle.std.proofs.lemmas.Bool.{cases_lt, cases_eq}
use Rattle.std.proofs.lemmas.Option.{slice_get_within}
use Rattle.htn_model.specs.Instance.{Instance}
use Rattle.htn_model.specs.Problem.{IsNetwork, Network}
use Rattle.htn_model.proofs.Ascending.{in_at, at_in, in_map, in_mapped}
use Rattle.plan_room.specs.Bound.{IsLower}
use Rattle.plan_room.specs.Placing.{IsFinish, IsFirst}
use Rattle.plan_room.specs.Matching.{IsBeaten, IsFound}
use Rattle.plan_room.specs.Lines.{Lines, AreLines, AreCandidates, networks_of}
use Rattle.plan_room.specs.Seats.{children_of, IsOneOf, LineFits}
use Rattle.plan_room.specs.Frames.{IsLine, IsFrame, IsWork, NetworkHasRoom, SomeFits, unboxed}
use Rattle.plan_room.specs.Windows.{finish_of, IsLastBetter}
use Rattle.plan_room.specs.declared.frames.Frame.{Frame}
use Rattle.plan_room.specs.declared.frames.Work.{Work}
use Rattle.plan_room.proofs.Reordered.{all_end}
use Rattle.plan_room.proofs.Unrolled.{unrolled, rolled, is_network}
use Rattle.plan_room.proofs.Windowed.{beaten_past}

module _ (l : Lines) (children : List ℕ) (instances : List Instance) (gap : ℕ) where
  -- one of the first networks has room up to a gap
  abbrev Some_of : ℕ → ℕ → Type 0
  Some_of number h = SomeFits l children instances number gap h

  -- none of the first networks finishes earlier than the best
  abbrev NoneBetter : ℕ → Option ℕ → Type 0
  NoneBetter number best = (h : ℕ) → h ≤ l.actions → Some_of number h → IsBeaten best h

  -- what was found of the first is found of one more
  wider : (number : ℕ) (best : Option ℕ) → IsFound (Some_of number) l.actions best → IsFound (Some_of (number + 1)) l.actions best
  wider number None found = tt
  wider number (Some end) (low, (i, inside, instance, is, room)) = (low, (i, (let l = inside in omega arith), instance, is, room))

  module _ (tried : ℕ) (best : Option ℕ) (found : IsFound (Some_of tried) l.actions best) (none_better : NoneBetter tried best)
      (instance : Instance) (is : slice_get instances tried ≡ Some instance) where
    -- a network of those tried is one before or this one
    at_tried : (i : ℕ) → i < tried + 1 → (other : Instance) → slice_get instances i ≡ Some other → (i < tried) ⊎ (other ≡ instance)
    at_tried i low other there = elim (cases_eq i tried) [
      | inl same ↦ inr (let e : slice_get instances tried ≡ Some other = subst (λ j. slice_get instances j ≡ Some other) same there in let f : other ≡ instance = cc in f)
      | inr before ↦ inl (omega arith)
    ]

    -- where one of those has room, one before or this one has
    one_of : (h : ℕ) → Some_of (tried + 1) h → Some_of tried h ⊎ NetworkHasRoom l children instance.network gap h
    one_of h (i, low, other, there, room) = elim (at_tried i low other there) [
      | inl before ↦ inl (i, before, other, there, room)
      | inr same ↦ inr (subst (λ (x : Instance). NetworkHasRoom l children x.network gap h) same room)
    ]

    -- it has no room
    pub passed_found : IsFound (Some_of (tried + 1)) l.actions best
    passed_found = wider tried best found

    -- it has, but past the last gap that is better
    pub late_none : (least last : ℕ) → IsLastBetter best least l.actions (Some last) → ((h : ℕ) → h ≤ last → NetworkHasRoom l children instance.network gap h → ⊥) → NoneBetter (tried + 1) best
    late_none least last is never h low some = elim (one_of h some) [
      | inl before ↦ none_better h low before
      | inr here ↦ elim (cases_lt last h) [ inl past ↦ beaten_past l.actions least last h best is low past | inr early ↦ absurd (never h early here) ]
    ]

    -- it has it earlier
    module _ (end : ℕ) (first : IsFirst (NetworkHasRoom l children instance.network gap) l.actions end) (better : IsBeaten best end → ⊥) where
      pub better_found : IsFound (Some_of (tried + 1)) l.actions (Some end)
      better_found = (first.within, (tried, (let l : tried < tried + 1 = omega arith in l), instance, is, first.fits))

      pub better_none : NoneBetter (tried + 1) (Some end)
      better_none h low some = elim (one_of h some) [
        | inl before ↦ by best better (none_better h low before)
        | inr here ↦ first.least h here
      ]
        where
          by : (b : Option ℕ) → (IsBeaten b end → ⊥) → IsBeaten b h → end ≤ h
          by None no_worse beaten = absurd beaten
          by (Some k) no_worse beaten = elim (cases_lt end k) [ inl less ↦ omega arith | inr more ↦ absurd (no_worse more) ]

-- all networks are done with
module _ (l : Lines) (are : AreLines l) (i gap : ℕ) (line : IsLine l i) (instances : List Instance)
    (candidates : AreCandidates l (IsOneOf l i) (children_of l i) (networks_of instances)) where
  -- where a network has room the line has
  pub some_rolled : (number h : ℕ) → SomeFits l (children_of l i) instances number gap h → LineFits l i gap h
  some_rolled number h (j, low, instance, there, room) =
      rolled l are i gap h line instance.network (candidates.each instance.network (in_mapped (λ (x : Instance). x.network) instance instances (at_in instance instances j there))) room

  -- where the line has room one of its networks has
  pub some_unrolled : (h : ℕ) → h ≤ l.actions → LineFits l i gap h → SomeFits l (children_of l i) instances (length instances) gap h
  some_unrolled h low fits =
      let (network, one, room) = unrolled l are i gap h line fits in
      let (instance, there, same) = in_map (λ (x : Instance). x.network) network instances (candidates.all network one gap h low room) in
      let (j, is) = in_at instance instances there in
      (j, slice_get_within instances j instance is, instance, is, subst (λ n. NetworkHasRoom l (children_of l i) n gap h) same room)

  -- each of the networks is one of the problem's
  pub network_at : (j : ℕ) (instance : Instance) → slice_get instances j ≡ Some instance → IsNetwork instance.network
  network_at j instance is = is_network l are i instance.network (candidates.each instance.network (in_mapped (λ (x : Instance). x.network) instance instances (at_in instance instances j is)))

  module _ (tried : ℕ) (best : Option ℕ) (all : length instances ≤ tried) (low : tried ≤ length instances)
      (found : IsFound (SomeFits l (children_of l i) instances tried gap) l.actions best)
      (none_better : (h : ℕ) → h ≤ l.actions → SomeFits l (children_of l i) instances tried gap h → IsBeaten best h) where
    -- the line has room up to no gap before the best
    none_earlier : (h : ℕ) → h ≤ l.actions → LineFits l i gap h → IsBeaten best h
    none_earlier h small fits = none_better h small
        (subst (λ n. SomeFits l (children_of l i) instances n gap h) (let e : length instances ≡ tried = omega arith in e) (some_unrolled h small fits))

    -- so the best is the first
    pub line_first : (end : ℕ) → best ≡ Some end → IsFirst (LineFits l i gap) l.actions end
    line_first end is =
        let (small, some) = subst (IsFound (SomeFits l (children_of l i) instances tried gap) l.actions) is found in
        record {
          within = small;
          fits = some_rolled tried end some;
          least = λ k fits. elim (cases_lt l.actions k) [ inl past ↦ omega arith | inr inside ↦ subst (λ b. IsBeaten b k) is (none_earlier k inside fits) ];
        }

    -- and where there is none the line never has room
    pub line_never : best ≡ None → (k : ℕ) → k ≤ l.actions → LineFits l i gap k → ⊥
    line_never is k small fits = subst (λ b. IsBeaten b k) is (none_earlier k small fits)

  -- the answer, when all networks are done with
  pub line_done : (tried : ℕ) (best : Option ℕ) → length instances ≤ tried → tried ≤ length instances → IsFound (SomeFits l (children_of l i) instances tried gap) l.actions best
      → ((h : ℕ) → h ≤ l.actions → SomeFits l (children_of l i) instances tried gap h → IsBeaten best h) → IsFinish (LineFits l i gap) l.actions (finish_of best)
  line_done tried None all low found none_better = line_never tried None all low found none_better refl
  line_done tried (Some end) all low found none_better = line_first tried (Some end) all low found none_better end refl

  -- and when none can be better than the best
  pub line_least : (tried least : ℕ) (best : Option ℕ) → IsFound (SomeFits l (children_of l i) instances tried gap) l.actions best → IsLower l (children_of l i) gap least
      → IsLastBetter best least l.actions None → IsFinish (LineFits l i gap) l.actions (finish_of best)
  line_least tried least None found lower is = absurd is
  line_least tried least (Some end) (small, some) lower is = record {
    within = small;
    fits = some_rolled tried end some;
    least = λ k fits. (let (network, one, room) = unrolled l are i gap k line fits in let e = lower k (all_end l (children_of l i) network gap k room) in omega arith);
  }

-- work that is kept of some, or none
pub kept_so : (l : Lines) (children : List ℕ) (network : Network) (gap : ℕ) (work kept : Option Work) → MatchOption kept ⊤ (λ w. work ≡ Some w) → IsWork l children network gap work
    → IsWork l children network gap kept
kept_so l children network gap work None kept_is is = tt
kept_so l children network gap work (Some w) kept_is is = subst (IsWork l children network gap) kept_is is

-- a frame with other work that is kept
pub reworked : (l : Lines) (frame : Frame) → IsFrame l frame → (instance : Instance) → slice_get (cow_slice_items frame.networks) frame.tried ≡ Some instance → (work : Option (Box Work))
    → IsWork l (children_of l frame.question.line) instance.network frame.question.gap (unboxed work)
    → IsFrame l (record { question = frame.question; networks = frame.networks; tried = frame.tried; best = frame.best; least = frame.least; work = work })
reworked l frame is instance at work is_work = record {
  line = is.line;
  within = is.within;
  candidates = is.candidates;
  low = is.low;
  found = is.found;
  none_better = is.none_better;
  lower = is.lower;
  work = λ other there. (let same : instance ≡ other = cc in subst (λ (x : Instance). IsWork l (children_of l frame.question.line) x.network frame.question.gap (unboxed work)) same is_work);
}
