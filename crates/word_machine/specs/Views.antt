-- The rule on the two words of a desk and on the views of all passes, and what each kind of step does.
use Rattle.std.specs.Prelude.{◌≡◌, ℕ, ◌+◌, ◌-◌, ◌^◌, ◌<◌, ◌≤◌, min, Bool, List, [], ◌∷◌, ◌++◌, length, slice_index, sum_by, if◌then◌else◌, nat_lt}
use mathlib.Core.Option.{some}
use lib.ListN.{get_elem?}
use Rattle.atomic_table.specs.Table.{State, Me, Step}
use Rattle.word_machine.specs.declared.view.Size.{Size}
use Rattle.word_machine.specs.declared.view.View.{View}
use Rattle.atomic_table.specs.Seated.{TableId}
use Rattle.atomic_table.specs.declared.shared.Seat.{Seat}
use Rattle.word_machine.specs.Desk.{times, once_below, DeskState, PassState, all_drawn, all_reported, all_seen}

-- the least word where no place was reported
abbrev pub no_place : ℕ
no_place = 18446744073709551615

-- the view that stands for all seats, at the start
abbrev pub whole : Size → View
whole size = record { seats = size.seats; ended = 0; size = size; drawn = []; reported = []; seen = [] }

-- the view of a pass that takes one seat at a desk of that size
abbrev pub one_seat : Size → View
one_seat size = record (whole size) { seats = 1 }

-- the view of a desk without pieces and seats
abbrev pub spent_view : View
spent_view = whole record { pieces = 0; seats = 0 }

-- a view with one seat less
abbrev pub without_one : View → View
without_one v = record v { seats = v.seats - 1 }

-- the two views as one
abbrev pub joined : View → View → View
joined v w = record {
  seats = v.seats + w.seats;
  ended = v.ended + w.ended;
  size = v.size;
  drawn = v.drawn ++ w.drawn;
  reported = v.reported ++ w.reported;
  seen = v.seen ++ w.seen;
}

-- how often x was drawn, reported and seen, by all views
abbrev pub draws : ℕ → List View → ℕ
draws x views = sum_by (λ v. times x v.drawn) views

-- how often a place stands among all reports
abbrev pub reports : ℕ → List View → ℕ
reports x views = sum_by (λ v. times x v.reported) views

-- how often a place stands among all that was seen
abbrev pub looks : ℕ → List View → ℕ
looks x views = sum_by (λ v. times x v.seen) views

-- a spent view is empty, and any other is of this desk
pub record Sits (size : Size) (v : View) : Type 0 where
  pub spent : v.seats ≡ 0 → v ≡ spent_view
  pub of_desk : 0 < v.seats → v.size ≡ size
  pub ended : v.ended ≤ v.seats

-- the numbers below both the draw word and `pieces` were drawn, each once, and no others; the draw word is their number
-- and that of the seats that have ended. So a seat has ended only if the draw word is above `pieces`
pub record Numbers (pieces draw : ℕ) (views : List View) : Type 0 where
  pub drawn : (x : ℕ) → draws x views ≡ once_below x (min draw pieces)
  pub counted : draw ≡ min draw pieces + sum_by (λ v. v.ended) views

-- the least word is the greatest u64 if there is no report, and else the least report; each seen value is a report, and
-- not below the least word
pub record Places (least : ℕ) (views : List View) : Type 0 where
  pub lowest : (x : ℕ) → 0 < reports x views → (least ≤ x) × (x < no_place)
  pub reached : least < no_place → 0 < reports least views
  pub seen : (x : ℕ) → 0 < looks x views → (least ≤ x) × (0 < reports x views)

-- the views stand for all seats
pub record Seats (size : Size) (views : List View) : Type 0 where
  pub few : (size.pieces ≤ 2 ^ 63) × (size.seats ≤ 64)
  pub all : sum_by (λ v. v.seats) views ≡ size.seats
  pub each : (port : ℕ) (v : View) → get_elem? views port ≡ some v → Sits size v

-- word 0 is the draw word, and word 1 the least word
pub record Kept (size : Size) (s : State (Unit {0}) View) : Type 0 where
  pub words : length s.words ≡ 2
  pub numbers : Numbers size.pieces (slice_index s.words 0) s.views
  pub places : Places (slice_index s.words 1) s.views
  pub seated : Seats size s.views

-- the view of a pass together with the table of all
abbrev Sat : Type 0
Sat = Me (Unit {0}) View

-- a view that drew one number more
abbrev pub drew : View → ℕ → View
drew v n = record v { drawn = v.drawn ++ n ∷ [] }

-- a view that found the numbers at an end once more
abbrev pub ended_view : View → View
ended_view v = record v { ended = v.ended + 1 }

-- a view with one report more
abbrev pub reported_view : View → ℕ → View
reported_view v place = record v { reported = v.reported ++ place ∷ [] }

-- a view with one more look, and what it saw
abbrev pub saw : View → ℕ → View
saw v place = record v { seen = v.seen ++ place ∷ [] }

-- the number found is drawn if it is below `pieces`; else the seat has ended. It is above each that this view has drawn
abbrev pub Draws : Step (Unit {0}) → Sat → ℕ → Sat → Type 0
Draws s before found after =
    (after ≡ ((if nat_lt found before.0.size.pieces then drew before.0 found else ended_view before.0), before.1))
    × ((x : ℕ) → 0 < times x before.0.drawn → x < found)

-- what a report changes: it is added to the view of the pass, and nothing else
abbrev pub Reports : Step (Unit {0}) → Sat → ℕ → Sat → Type 0
Reports s before found after = after ≡ (reported_view before.0 s.first, before.1)

-- the place found is seen, unless there is none. It is not above any that this view has reported or seen
abbrev pub Looks : Step (Unit {0}) → Sat → ℕ → Sat → Type 0
Looks s before found after =
    (after ≡ ((if nat_lt found no_place then saw before.0 found else before.0), before.1))
    × ((x : ℕ) → 0 < times x before.0.reported + times x before.0.seen → (found ≤ x) × (x < no_place))

-- what contracts see of a pass, of its table, its view and whether it has ended
abbrev pub state_of : TableId → View → Bool → PassState
state_of id v ended = record { desk = record { id = id; pieces = v.size.pieces; seats = v.size.seats }; ended = ended; drawn = v.drawn; reported = v.reported; seen = v.seen }

-- the desk that a seat belongs to, with its pieces and seats
abbrev pub desk_of : Seat (Unit {0}) View → DeskState
desk_of seat = record { id = seat.table_id; pieces = seat.me.0.size.pieces; seats = seat.me.0.size.seats }

-- the seat of a pass
abbrev pub IsOf : PassState → Seat (Unit {0}) View → Type 0
IsOf p seat =
    (desk_of seat ≡ p.desk) × (seat.me.1 ≡ []) × (seat.me.0.seats ≡ 1) × (seat.me.0.ended ≡ (if p.ended then 1 else 0))
    × (seat.me.0.drawn ≡ p.drawn) × (seat.me.0.reported ≡ p.reported) × (seat.me.0.seen ≡ p.seen)

-- a seat that stands for all these passes
abbrev pub IsOfAll : DeskState → List PassState → Seat (Unit {0}) View → Type 0
IsOfAll desk passes seat =
    (desk_of seat ≡ desk) × (seat.me.1 ≡ []) × (seat.me.0.seats ≡ length passes) × (seat.me.0.ended ≡ sum_by (λ p. if p.ended then 1 else 0) passes)
    × (seat.me.0.drawn ≡ all_drawn passes) × (seat.me.0.reported ≡ all_reported passes) × (seat.me.0.seen ≡ all_seen passes)
