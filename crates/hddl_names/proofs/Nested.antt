-- What intervals that tile one another tell.
use Rattle.std.proofs.Common.{◌≡◌, ℕ, true, zero, suc, nat_eq, ◌<◌, ◌≤◌, ◌+◌, ◌↔◌, List, [], ◌∷◌, refl, sym, ap, subst, ◌∙◌, arith, inl, inr, ⊎_elim, length, get_or}
use Rattle.std.specs.List.{Contains}
use Rattle.std.proofs.lemmas.Bool.{cases_lt, eqb-true}
use Rattle.std.proofs.lemmas.List.{get_or_past}
use Rattle.std.proofs.lemmas.List.Elements.{All-contains}
use Rattle.std.proofs.lemmas.Option.{get_or_from_slice_get}
use Rattle.htn_order.specs.Closure.{Precedes, Direct, Through}
use Rattle.htn_order.proofs.Joining.{follow}
use Rattle.hddl_names.specs.Rows.{AreRows, turned}
use Rattle.hddl_names.specs.Reach.{Reaches}
use Rattle.hddl_names.specs.Intervals.{interval_at, start_of, end_of, Holds, IsInside, Tile, AreTiled, StandAtPlaces, Tell, HaveTops, AreTops, TellOfRows, top_at}
use Rattle.hddl_names.specs.declared.intervals.Interval.{Interval}
use Rattle.hddl_names.proofs.Levels.{has_row}
use Rattle.hddl_names.proofs.Parents.{turned-pair, unturned-pair}
use Rattle.hddl_names.proofs.Within.{cons_cases, first, later, nothing}

-- ## One interval after another

-- the intervals of the numbers have all places from one to another, and none has no places
pub record Fill (intervals : List Interval) (numbers : List ℕ) (from to : ℕ) : Type 0 where
  pub rises : from ≤ to
  pub within : (c : ℕ) → Contains numbers c → (from ≤ start_of intervals c) × (start_of intervals c < end_of intervals c) × (end_of intervals c ≤ to)
  pub covered : (place : ℕ) → from ≤ place → place < to → (c : ℕ) × Contains numbers c × Holds intervals c place

-- intervals that tile fill all places between
pub filled : (intervals : List Interval) (numbers : List ℕ) (from to : ℕ) → Tile intervals numbers from to → Fill intervals numbers from to
filled intervals [] from to is =
    record { rises = omega (arith, is); within = λ c h. absurd (nothing c h); covered = λ place low high. absurd (omega (arith, low, high, is)) }
filled intervals (c ∷ rest) from to (starts, ends, tiles) =
    let more = filled intervals rest (end_of intervals c) to tiles in
    let rises = more.rises in
    record {
      rises = omega (arith, ends, rises);
      within = λ x h. ⊎_elim
          (λ is. subst (λ x. (from ≤ start_of intervals x) × (start_of intervals x < end_of intervals x) × (end_of intervals x ≤ to)) is
          (omega (arith, starts), omega (arith, starts, ends), rises))
          (λ later. let w = more.within x later in let low = w.0 in (omega (arith, low, ends), w.1, w.2))
          (cons_cases c x rest h);
      covered = λ place low high. ⊎_elim
          (λ here. (c, first c rest, (omega (arith, starts, low), here)))
          (λ past. let found = more.covered place past high in (found.0, later c found.0 rest found.1, found.2))
          (cases_lt place (end_of intervals c));
    }

-- intervals that tile don't go backwards
pub tile_rises : (intervals : List Interval) (numbers : List ℕ) (from to : ℕ) → Tile intervals numbers from to → from ≤ to
tile_rises intervals numbers from to tiles = (filled intervals numbers from to tiles).rises

-- ## Places

-- a list of length 0 is empty
pub none : (xs : List ℕ) → nat_eq (length xs) 0 ≡ true → xs ≡ []
none [] is = refl
none (x ∷ xs) is = absurd (let empty = eqb-true (suc (length xs)) 0 is in omega (arith, empty))

-- so no two numbers have one place
pub apart : (intervals : List Interval) (order : List ℕ) → StandAtPlaces intervals order
    → (a b : ℕ) → a < length intervals → b < length intervals → start_of intervals a ≡ start_of intervals b → a ≡ b
apart intervals order at a b small_a small_b same =
    sym (get_or_from_slice_get order (start_of intervals a) a 0 (at a small_a)) ∙ ap (λ k. get_or order k 0) same ∙ get_or_from_slice_get order (start_of intervals b) b 0 (at b small_b)

-- a number whose interval has places is one of those that intervals are kept of
pub has_places : (intervals : List Interval) (c : ℕ) → start_of intervals c < end_of intervals c → c < length intervals
has_places intervals c some =
    ⊎_elim (λ lt. lt)
    (λ past. absurd (let none = get_or_past intervals c (record { start = 0; end = 0 }) past in
    let ends : end_of intervals c ≡ 0 = ap (λ (i : Interval). i.end) none in omega (arith, some, ends)))
    (cases_lt c (length intervals))

-- ## The intervals of a hierarchy

module _ (up down : List (List ℕ)) (intervals : List Interval) (pairs : List (ℕ × ℕ))
    (no_parent : get_or up 0 [] ≡ []) (count : length intervals ≡ length down)
    (tiled : AreTiled intervals down) (order : List ℕ) (stand : StandAtPlaces intervals order)
    (ups : AreRows pairs up) (downs : AreRows (turned pairs) down) where
  -- no way is from 0
  ends_at_zero : (a b : ℕ) → a ≡ 0 → Precedes pairs a b → ⊥
  ends_at_zero _ _ is (Direct a b pair) = nothing b (subst (λ row. Contains row b) no_parent (subst (λ a. Contains (get_or up a []) b) is ((ups a b).1 pair)))
  ends_at_zero _ _ is (Through a m b pair rest) = nothing m (subst (λ row. Contains row m) no_parent (subst (λ a. Contains (get_or up a []) m) is ((ups a m).1 pair)))

  -- a pair's first number is in the row of its second
  child : (a p : ℕ) → Contains {X = ℕ × ℕ} pairs (a, p) → Contains (get_or down p []) a
  child a p pair = (downs p a).1 (turned-pair pairs a p pair)

  -- a number in a row is paired with the row's
  parent : (a p : ℕ) → Contains (get_or down p []) a → Contains {X = ℕ × ℕ} pairs (a, p)
  parent a p there = unturned-pair pairs a p ((downs p a).0 there)

  -- an interval is inside that of a parent, after its start
  step : (a p : ℕ) → 0 < p → Contains {X = ℕ × ℕ} pairs (a, p)
      → (start_of intervals p < start_of intervals a) × (start_of intervals a < end_of intervals a) × (end_of intervals a ≤ end_of intervals p)
  step a p positive pair =
      let there = child a p pair in
      (filled intervals (get_or down p []) (suc (start_of intervals p)) (end_of intervals p) (tiled p positive (has_row down p a there))).within a there

  -- an interval is inside those of all that it leads to
  nested : (a b : ℕ) → Precedes pairs a b → 0 < b
      → (start_of intervals b < start_of intervals a) × (start_of intervals a < end_of intervals a) × (end_of intervals a ≤ end_of intervals b)
  nested _ _ (Direct a b pair) positive = step a b positive pair
  nested _ _ (Through a m b pair rest) positive =
      ⊎_elim
      (λ between. let one = step a m between pair in
      let more = nested m b rest positive in
      let up_0 = more.0 in
      let up_1 = one.0 in
      let down_0 = one.2 in
      let down_1 = more.2 in
      (omega (arith, up_0, up_1), one.1, omega (arith, down_0, down_1)))
      (λ root. absurd (ends_at_zero m b (omega (arith, root)) rest))
      (cases_lt 0 m)

  -- what leads to another is inside it, and each is inside itself
  inside : (a b : ℕ) → 0 < b → b < length intervals → Reaches pairs a b → IsInside intervals a b
  inside a b positive small (inl is) =
      subst (λ a. IsInside intervals a b) (sym is)
      (let own = tile_rises intervals (get_or down b []) (suc (start_of intervals b)) (end_of intervals b) (tiled b positive (omega (arith, small, count))) in (omega arith, omega (arith, own)))
  inside a b positive small (inr r) =
      let n = nested a b r positive in
      let low = n.0 in
      let own = n.1 in
      let high = n.2 in
      (omega (arith, low), omega (arith, own, high))

  -- what is inside a number and isn't it is inside one of its row
  below : (a b : ℕ) → 0 < b → b < length intervals → start_of intervals b < start_of intervals a → start_of intervals a < end_of intervals b
      → (c : ℕ) × Contains {X = ℕ × ℕ} pairs (c, b) × (0 < c) × (c < length intervals) × (start_of intervals b < start_of intervals c) × (end_of intervals c ≤ end_of intervals b) × IsInside intervals a c
  below a b positive small low high =
      let fill = filled intervals (get_or down b []) (suc (start_of intervals b)) (end_of intervals b) (tiled b positive (omega (arith, small, count))) in
      let found = fill.covered (start_of intervals a) (omega (arith, low)) high in
      let within = fill.within found.0 found.1 in
      let low_c = within.0 in
      let pair = parent found.0 b found.1 in
      let positive_c = ⊎_elim {A = 0 < found.0} {B = found.0 ≤ 0} {C = 0 < found.0} (λ lt. lt) (λ root. absurd (ends_at_zero found.0 b (omega (arith, root)) (Direct found.0 b pair))) (cases_lt 0 found.0) in
      (found.0, pair, positive_c, has_places intervals found.0 within.1, omega (arith, low_c), within.2, found.2)

  -- what is inside another leads to it, or is it
  reaches : (k a b : ℕ) → a < length intervals → 0 < b → b < length intervals → end_of intervals b ≤ start_of intervals b + k → IsInside intervals a b → Reaches pairs a b
  reaches zero a b small_a positive small_b most (low, high) = absurd (omega (arith, most, low, high))
  reaches (suc k) a b small_a positive small_b most (low, high) =
      ⊎_elim
      (λ lt. let (c, pair, positive_c, small_c, low_c, high_c, in_c) = below a b positive small_b lt high in
      ⊎_elim
      (λ is. inr (subst (λ a. Precedes pairs a b) (sym is) (Direct c b pair)))
      (λ r. inr (follow pairs a c b r (Direct c b pair)))
      (reaches k a c small_a positive_c small_c (omega (arith, most, low_c, high_c)) in_c))
      (λ le. inl (apart intervals order stand a b small_a small_b (omega (arith, le, low))))
      (cases_lt (start_of intervals b) (start_of intervals a))

  -- the intervals tell what leads to what
  tell : Tell pairs intervals
  tell a b small_a positive small_b =
      (λ h. reaches (end_of intervals b) a b small_a positive small_b (omega arith) h, λ r. inside a b positive small_b r)

-- ## The tops of lines

-- a row without members is empty
empty : (row : List ℕ) → ((b : ℕ) → Contains row b → ⊥) → row ≡ []
empty [] none = refl
empty (x ∷ xs) none = absurd (none x (first x xs))

-- tops that are kept along rows are the ends of lines
tops_end : (up : List (List ℕ)) (pairs : List (ℕ × ℕ)) (intervals : List Interval) (tops : List ℕ) → length intervals ≡ length up → AreRows pairs up → Tell pairs intervals
    → HaveTops intervals tops up → AreTops pairs (length up) tops
tops_end up pairs intervals tops count ups tells ends = record {
  reached = λ a small.
      ⊎_elim
      (λ own. inl (sym own))
      (λ above. let inside = above.2 in
      let low = inside.0 in
      let high = inside.1 in
      (tells a (top_at tops a) (omega (arith, small, count)) above.1 (has_places intervals (top_at tops a) (omega (arith, low, high)))).0 inside)
      (ends a small).0;
  alike = λ a b pair.
      let there = (ups a b).1 pair in
      sym (All-contains (λ parent. top_at tops parent ≡ top_at tops a) (get_or up a []) b (ends a (has_row up a b there)).1 there);
  last = λ a small none.
      ⊎_elim (λ own. own) (λ above. absurd (above.0 (empty (get_or up a []) (λ b there. none b ((ups a b).0 there))))) (ends a small).0;
}

-- intervals and tops that are made of rows tell what they should
pub told : (up down : List (List ℕ)) (intervals : List Interval) (tops order : List ℕ) → length up ≡ length down → get_or up 0 [] ≡ [] → length intervals ≡ length down
    → AreTiled intervals down → StandAtPlaces intervals order → HaveTops intervals tops up → TellOfRows up down intervals tops
told up down intervals tops order same no_parent count tiled stand ends pairs ups downs =
    let tells = tell up down intervals pairs no_parent count tiled order stand ups downs in
    (count, tells, tops_end up pairs intervals tops (count ∙ sym same) ups tells ends)

-- ## All numbers

-- how a number's own interval is read
pub tile_own : (intervals : List Interval) (rows : List (List ℕ)) (i : ℕ) (row : List ℕ) (own : Interval) → own ≡ interval_at intervals i → row ≡ get_or rows i []
    → Tile intervals row (own.start + 1) own.end ↔ Tile intervals (get_or rows i []) (suc (start_of intervals i)) (end_of intervals i)
tile_own intervals rows i row own is row_is =
    subst (λ (other : Interval). Tile intervals row (own.start + 1) own.end ↔ Tile intervals (get_or rows i []) (suc other.start) other.end) is
    (subst (λ (other : List ℕ). Tile intervals row (own.start + 1) own.end ↔ Tile intervals other (suc own.start) own.end) row_is
    (subst (λ from. Tile intervals row (own.start + 1) own.end ↔ Tile intervals row from own.end) (omega arith) (λ h. h, λ h. h)))
