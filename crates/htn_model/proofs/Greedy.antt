-- Greedy spans exist where any do.
use Rattle.std.proofs.Common.{◌≡◌, ℕ, zero, suc, ◌+◌, ◌≤◌, ◌<◌, Bool, true, false, cond, List, [], ◌∷◌, length, Option, Some, None, slice_get, ◌⊎◌, inl, inr, sym, refl, ap, ◌∙◌, subst, arith}
use Rattle.std.proofs.lemmas.Bool.{both_ways, cases_lt, cases_eq}
use Rattle.htn_model.specs.State.{State}
use Rattle.htn_model.specs.Literal.{Literal, holds}
use Rattle.htn_model.specs.Problem.{Problem, Network, IsNetwork, is_before, Child, precondition, action, task, IsGrounded, GroundTask}
use Rattle.htn_model.specs.PlanFile.{Word, Naming}
use Rattle.htn_model.specs.Fits.{PlanTrees, no_plans, plan, child_of, StandAt, IsMatching, StepFits, Fits, AllFit, NetworkFits, IsEarliest, PlanTree, action_at, decomposition}
use Rattle.htn_model.specs.Greedy.{LineTable, LineTables, FitsGreedily, LinesDecide, PlanHasRoom, HasRoomAt, IsEarliestAt, IsGreedy, HaveSpans, Tables, GreedySpansDecide}
use Rattle.htn_model.proofs.Splices.{square_past_left}
use Rattle.htn_model.proofs.Tops.{IsGreatest, greatest}
use Rattle.htn_model.proofs.Monotone.{fits_monotone}
use Rattle.htn_model.proofs.Earliest.{IsRanked, no_later_start, no_later_finish}

-- ## The number of positions before a position

-- how many numbers below n pass
count : (ℕ → Bool) → ℕ → ℕ
count test zero = 0
count test (suc n) = cond (test n) 1 0 + count test n

-- one test
one_le : (a b : Bool) → (a ≡ true → b ≡ true) → cond a 1 0 ≤ cond b 1 0
one_le true true h = omega arith
one_le true false h = absurd (both_ways false refl (h refl))
one_le false true h = omega arith
one_le false false h = omega arith

-- a wider test passes no fewer
count_le : (s t : ℕ → Bool) (n : ℕ) → ((k : ℕ) → s k ≡ true → t k ≡ true) → count s n ≤ count t n
unfolding count
count_le s t zero h = omega arith
count_le s t (suc n) h = let here = one_le (s n) (t n) (h n) in let more = count_le s t n h in omega arith

-- a test that fails
at_none : (b : Bool) → b ≡ false → cond b 1 0 ≤ 0
at_none true e = absurd cc
at_none false e = omega arith

-- a test that passes
at_one : (b : Bool) → b ≡ true → 1 ≤ cond b 1 0
at_one true e = omega arith
at_one false e = absurd cc

-- and more where one more passes
count_less : (s t : ℕ → Bool) (n k : ℕ) → ((j : ℕ) → s j ≡ true → t j ≡ true) → k < n → s k ≡ false → t k ≡ true → count s n < count t n
unfolding count
count_less s t zero k h low former latter = absurd (omega arith)
count_less s t (suc n) k h low former latter = elim (cases_eq k n) [
  | inl same ↦ (let none = at_none (s n) (subst (λ m. s m ≡ false) same former) in
      let one = at_one (t n) (subst (λ m. t m ≡ true) same latter) in
      let more = count_le s t n h in omega arith)
  | inr other ↦ (let below : k < n = omega arith in let more = count_less s t n k h below former latter in let here = one_le (s n) (t n) (h n) in omega arith)
]

-- one test counts one at most
one_small : (b : Bool) → cond b 1 0 ≤ 1
one_small true = omega arith
one_small false = omega arith

-- no more pass than there are
count_small : (t : ℕ → Bool) (n : ℕ) → count t n ≤ n
unfolding count
count_small t zero = omega arith
count_small t (suc n) = let more = count_small t n in let here = one_small (t n) in omega arith

module _ (network : Network) (is_network : IsNetwork network) where
  -- how many nodes the network has
  abbrev size : ℕ
  size = length network.children

  -- how many are before a position
  pub rank : ℕ → ℕ
  rank a = count (λ b. is_before network.order b a) size

  -- they are fewer than all and one
  pub rank_small : (a : ℕ) → rank a < suc size
  unfolding rank
  rank_small a = let c = count_small (λ b. is_before network.order b a) size in omega arith

  -- past the end nothing is before another
  past_size : (a b : ℕ) → size ≤ a → is_before network.order a b ≡ false
  past_size a b h = square_past_left size network.order a b is_network.square h

  -- what is before another is below the end
  within_size : (a b : ℕ) → is_before network.order a b ≡ true → a < size
  within_size a b e = elim (cases_lt a size) [ inl low ↦ low | inr past ↦ absurd (both_ways (is_before network.order a b) (past_size a b past) e) ]

  -- what is before another has a smaller rank
  pub is_ranked : IsRanked network.order rank
  unfolding rank
  is_ranked a b e =
      count_less (λ c. is_before network.order c a) (λ c. is_before network.order c b) size a (λ c h. is_network.closed.transitive c a b h e)
      (within_size a b e) (is_network.closed.irreflexive a) e

-- ## Rooms

module _ (naming : Naming) (problem : Problem) (states : ℕ → State) where
  -- a plan has room from earlier on too
  plan_room_wider : (positions : List ℕ) (plans : PlanTrees) (a x y x' : ℕ) → x' ≤ x → PlanHasRoom naming problem states positions plans a x y
      → PlanHasRoom naming problem states positions plans a x' y
  plan_room_wider positions no_plans a x y x' low h = tt
  plan_room_wider [] (plan p plans) a x y x' low h = tt
  plan_room_wider (b ∷ positions) (plan p plans) a x y x' low h = (
    (λ e. fits_monotone naming problem states p x y x' y low (let w : y ≤ y = omega arith in w) (h.0 e)),
    plan_room_wider positions plans a x y x' low h.1,
  )

  -- plans that fit at their positions have room there
  rooms_of_plans : (positions : List ℕ) (plans : PlanTrees) (start finish : ℕ → ℕ) → AllFit naming problem states positions plans start finish
      → (a : ℕ) → PlanHasRoom naming problem states positions plans a (start a) (finish a)
  rooms_of_plans positions no_plans start finish all a = tt
  rooms_of_plans [] (plan p plans) start finish all a = tt
  rooms_of_plans (b ∷ positions) (plan p plans) start finish all a = (
    (λ e. subst (λ k. Fits naming problem states p (start k) (finish k)) (sym e) all.0),
    rooms_of_plans positions plans start finish all.1 a,
  )

  -- and the other way round
  plans_of_rooms : (positions : List ℕ) (plans : PlanTrees) (start finish : ℕ → ℕ) (children : List Child) → StandAt children positions plans
      → ((a : ℕ) → PlanHasRoom naming problem states positions plans a (start a) (finish a)) → AllFit naming problem states positions plans start finish
  plans_of_rooms positions no_plans start finish children stand rooms = tt
  plans_of_rooms [] (plan p plans) start finish children stand rooms = absurd stand
  plans_of_rooms (b ∷ positions) (plan p plans) start finish children stand rooms =
      ((rooms b).0 refl, plans_of_rooms positions plans start finish children stand.1 (λ a. (rooms a).1))

-- ## Greedy spans

module _ (naming : Naming) (problem : Problem) (states : ℕ → State) (network : Network) (positions : List ℕ) (plans : PlanTrees) (is_network : IsNetwork network) where
  -- what stands at a position has room
  abbrev Room : ℕ → ℕ → ℕ → Type 0
  Room = HasRoomAt naming problem states network positions plans

  -- the first gap at which it can have finished
  abbrev Earliest : ℕ → ℕ → ℕ → Type 0
  Earliest = IsEarliestAt naming problem states network positions plans

  -- spans that are greedy from a gap on
  abbrev Greedy : ℕ → (ℕ → ℕ) → (ℕ → ℕ) → Type 0
  Greedy = IsGreedy naming problem states network positions plans

  -- any spans of the plans at these positions
  abbrev Spans : ℕ → ℕ → (ℕ → ℕ) → (ℕ → ℕ) → Type 0
  Spans = HaveSpans naming problem states network positions plans

  -- a step fits from earlier on too
  step_wider : (literals : List Literal) (x y x' : ℕ) → x' ≤ x → StepFits states literals x y → StepFits states literals x' y
  step_wider literals x y x' low (gap, from, to, holds) = (gap, omega arith, to, holds)

  -- so has each position
  room_wider : (a x y x' : ℕ) → x' ≤ x → Room a x y → Room a x' y
  room_wider a x y x' low r = record {
    forward = (let f = r.forward in omega arith);
    step = λ literals e. step_wider literals x y x' low (r.step literals e);
    plan = plan_room_wider naming problem states positions plans a x y x' low r.plan;
  }

  -- spans give each position room
  rooms_of : (g h : ℕ) (start finish : ℕ → ℕ) → Spans g h start finish → (a : ℕ) → Room a (start a) (finish a)
  rooms_of g h start finish s a = record {
    forward = s.spans.forward a;
    step = λ literals e. s.steps a literals e;
    plan = rooms_of_plans naming problem states positions plans start finish s.fits a;
  }

  -- greedy spans are spans
  greedy_fit : (g h : ℕ) (start finish : ℕ → ℕ) → IsMatching network.children positions plans → Greedy g start finish → ((a : ℕ) → finish a ≤ h)
      → NetworkFits naming problem states network plans g h
  greedy_fit g h start finish matching greedy to = (
    positions,
    matching,
    start,
    finish,
    record { from = greedy.from; to = to; forward = λ a. (greedy.earliest a).room.forward; ordered = λ a b e. greedy.after b a e },
    (λ a literals e. (greedy.earliest a).room.step literals e),
    plans_of_rooms naming problem states positions plans start finish network.children matching.stand (λ a. (greedy.earliest a).room.plan),
  )

  -- no others finish earlier
  greedy_least : (g h : ℕ) (start finish other_start other_finish : ℕ → ℕ) → Greedy g start finish → Spans g h other_start other_finish → (a : ℕ) → finish a ≤ other_finish a
  greedy_least g h start finish other_start other_finish greedy s a =
      no_later_finish Room network.order (rank network is_network) g (suc (length network.children)) start finish (is_ranked network is_network) room_wider
      (record { first = λ b k low from after. greedy.soonest b k from after; least = λ b k low r. (greedy.earliest b).least k r })
      h other_start other_finish s.spans (rooms_of g h other_start other_finish s) a (rank_small network is_network a)

  -- ## Their existence, rank by rank

  module _ (g n : ℕ) (tables : Tables naming problem states network positions plans n) where
    -- the finish that a table tells, or the start where there is none
    abbrev finish_from : (a x : ℕ) → ((y : ℕ) × Earliest a x y) ⊎ ((k : ℕ) → k ≤ n → Room a x k → ⊥) → ℕ
    finish_from a x (inl found) = found.0
    finish_from a x (inr none) = x

    -- the finish of what comes before a position, else the first gap
    abbrev earlier : (ℕ → ℕ) → ℕ → ℕ → ℕ
    earlier finish a b = cond (is_before network.order b a) (finish b) g

    -- past the nodes nothing comes before
    earlier_small : (finish : ℕ → ℕ) (a b : ℕ) → length network.children ≤ b → earlier finish a b ≤ g
    earlier_small finish a b past = let e : earlier finish a b ≡ g = ap (λ c. cond c (finish b) g) (past_size network is_network b a past) in omega arith

    -- the greatest finish of what comes before
    begin : (ℕ → ℕ) → ℕ → ℕ
    begin finish a = (greatest g (earlier finish a) (length network.children) (earlier_small finish a)).0

    -- it is the greatest
    begin_is : (finish : ℕ → ℕ) (a : ℕ) → IsGreatest g (earlier finish a) (begin finish a)
    unfolding begin
    begin_is finish a = (greatest g (earlier finish a) (length network.children) (earlier_small finish a)).1

    -- what comes before has finished there
    after_earlier : (finish : ℕ → ℕ) (a b : ℕ) → is_before network.order b a ≡ true → finish b ≤ begin finish a
    after_earlier finish a b e =
        let u = (begin_is finish a).upper b in let same : earlier finish a b ≡ finish b = ap (λ c. cond c (finish b) g) e in omega arith

    -- no finish of what comes before is later than a gap by which all have
    earlier_up_to : (finish : ℕ → ℕ) (a k b : ℕ) → g ≤ k → (is_before network.order b a ≡ true → finish b ≤ k) → earlier finish a b ≤ k
    earlier_up_to finish a k b low h = by (is_before network.order b a) refl
      where
        by : (c : Bool) → is_before network.order b a ≡ c → cond c (finish b) g ≤ k
        by true e = h e
        by false e = low

    -- so it is the soonest start
    soonest : (finish : ℕ → ℕ) (a k : ℕ) → g ≤ k → ((b : ℕ) → is_before network.order b a ≡ true → finish b ≤ k) → begin finish a ≤ k
    soonest finish a k low h = (begin_is finish a).least k low (λ b. earlier_up_to finish a k b low (h b))

    -- the finish of a position, by so many rounds
    finish_at : ℕ → ℕ → ℕ
    finish_at zero a = g
    finish_at (suc m) a = finish_from a (begin (finish_at m) a) (tables a (begin (finish_at m) a))

    -- starts are equal where what comes before finishes alike
    same_begin : (first second : ℕ → ℕ) (a : ℕ) → ((b : ℕ) → is_before network.order b a ≡ true → first b ≡ second b) → begin first a ≡ begin second a
    same_begin first second a alike =
        let low = (begin_is first a).low in
        let up = (begin_is second a).low in
        let one : begin first a ≤ begin second a = soonest first a (begin second a) up (λ b e. let s = alike b e in let u = after_earlier second a b e in omega arith) in
        let two : begin second a ≤ begin first a = soonest second a (begin first a) low (λ b e. let s = alike b e in let u = after_earlier first a b e in omega arith) in
        omega arith

    -- after as many rounds as its rank a finish stays
    stable : (m a : ℕ) → rank network is_network a < m → finish_at (suc m) a ≡ finish_at m a
    unfolding finish_at
    stable zero a low = absurd (omega arith)
    stable (suc m) a low =
        ap (λ x. finish_from a x (tables a x))
        (same_begin (finish_at (suc m)) (finish_at m) a (λ b e. stable m b (let r = is_ranked network is_network b a e in omega arith)))

    -- the finish of a position
    finish : ℕ → ℕ
    finish = finish_at (suc (length network.children))

    -- the start of a position
    start : ℕ → ℕ
    start = begin finish

    -- the finish is what the table tells from the start
    finish_is : (a : ℕ) → finish a ≡ finish_from a (start a) (tables a (start a))
    unfolding start finish finish_at
    finish_is a = sym (stable (suc (length network.children)) a (rank_small network is_network a))

    -- whether some position is stuck
    abbrev Stuck : ℕ → Type 0
    Stuck a = (k : ℕ) → k ≤ n → Room a (start a) k → ⊥

    -- a position finishes earliest, or it is stuck
    found_or_stuck : (a : ℕ) → Earliest a (start a) (finish a) ⊎ Stuck a
    found_or_stuck a = by (tables a (start a)) refl
      where
        by : (t : ((y : ℕ) × Earliest a (start a) y) ⊎ Stuck a) → tables a (start a) ≡ t → Earliest a (start a) (finish a) ⊎ Stuck a
        by (inl found) e = inl (subst (Earliest a (start a)) (sym (finish_is a ∙ ap (finish_from a (start a)) e)) found.1)
        by (inr none) e = inr none

    -- no finish from that start is earlier
    least_there : (a k : ℕ) → k ≤ n → Room a (start a) k → finish a ≤ k
    least_there a k low r = elim (found_or_stuck a) [ inl found ↦ found.least k r | inr stuck ↦ absurd (stuck k low r) ]

    -- a position that is stuck leaves no spans at all
    none_where_stuck : (a : ℕ) → Stuck a → (h : ℕ) (other_start other_finish : ℕ → ℕ) → h ≤ n → Spans g h other_start other_finish → ⊥
    unfolding start
    none_where_stuck a stuck h other_start other_finish low s =
        let up = s.spans.to a in
        let earlier_start = no_later_start (λ b x y. Room b x y × (y ≤ n)) network.order (rank network is_network) g (suc (length network.children)) start finish (is_ranked network is_network)
        (λ b x y x' l r. (room_wider b x y x' l r.0, r.1))
        (record { first = λ b k l from after. soonest finish b k from after; least = λ b k l r. least_there b k r.1 r.0 })
        h other_start other_finish s.spans (λ b. (rooms_of g h other_start other_finish s b, (let t = s.spans.to b in omega arith)))
        a (let r = rank_small network is_network a in omega arith) in
        stuck (other_finish a) (omega arith) (room_wider a (other_start a) (other_finish a) (start a) earlier_start (rooms_of g h other_start other_finish s a))

    -- among the positions all finish earliest, or one is stuck
    search_stuck : (m : ℕ) → ((a : ℕ) → a < m → Earliest a (start a) (finish a)) ⊎ ((a : ℕ) × Stuck a)
    search_stuck zero = inl (λ a low. absurd (omega arith))
    search_stuck (suc m) = elim (search_stuck m) [
      | inl found ↦ elim (found_or_stuck m) [
        | inl here ↦ inl (λ a low. elim (cases_lt a m) [
          | inl below ↦ found a below
          | inr above ↦ (let same : m ≡ a = omega arith in subst (λ k. Earliest k (start k) (finish k)) same here)
        ])
        | inr stuck ↦ inr (m, stuck)
      ]
      | inr some ↦ inr some
    ]

    -- there are greedy spans, or no spans at all
    greedy_or_none : ((a x : ℕ) → length network.children ≤ a → (found : (y : ℕ) × Earliest a x y) × (tables a x ≡ inl found))
        → ((start : ℕ → ℕ) × (finish : ℕ → ℕ) × Greedy g start finish) ⊎ ((h : ℕ) (start finish : ℕ → ℕ) → h ≤ n → Spans g h start finish → ⊥)
    unfolding start
    greedy_or_none past = elim (search_stuck (length network.children)) [
      | inl found ↦ inl (
        start,
        finish,
        record {
          from = λ a. (begin_is finish a).low;
          after = λ a b e. after_earlier finish a b e;
          soonest = λ a k low h. soonest finish a k low h;
          earliest = λ a. elim (cases_lt a (length network.children)) [
            | inl low ↦ found a low
            | inr up ↦ (let (there, e) = past a (start a) up in subst (Earliest a (start a)) (sym (finish_is a ∙ ap (finish_from a (start a)) e)) there.1)
          ];
        },
      )
      | inr some ↦ inr (none_where_stuck some.0 some.1)
    ]

  -- ## Positions past the network's

  -- a child stands below the end
  child_within : (children : List Child) (a : ℕ) (c : Child) → slice_get children a ≡ Some c → a < length children
  child_within [] a c e = absurd cc
  child_within (d ∷ children) zero c e = omega arith
  child_within (d ∷ children) (suc a) c e = let more = child_within children a c e in omega arith

  -- past the end there is room for no plan to lack
  plans_past : (xs : List ℕ) (ps : PlanTrees) (a x y : ℕ) → StandAt network.children xs ps → length network.children ≤ a → PlanHasRoom naming problem states xs ps a x y
  plans_past xs no_plans a x y stand past = tt
  plans_past [] (plan p ps) a x y stand past = tt
  plans_past (b ∷ xs) (plan p ps) a x y stand past = (
    (λ same. let low = child_within network.children b (child_of p) stand.0 in absurd (omega arith)),
    plans_past xs ps a x y stand.1 past,
  )

  -- so the earliest finish there is the start
  earliest_past : (a x : ℕ) → IsMatching network.children positions plans → length network.children ≤ a → Earliest a x x
  earliest_past a x matching past = record {
    room = record {
      forward = omega arith;
      step = λ literals e. (let low = child_within network.children a (precondition literals) e in absurd (omega arith));
      plan = plans_past positions plans a x x matching.stand past;
    };
    least = λ k r. r.forward;
  }

  -- a table for each position, and past the nodes no room is needed
  abbrev table_or_past : (n a x : ℕ) → IsMatching network.children positions plans → Tables naming problem states network positions plans n
      → (a < length network.children) ⊎ (length network.children ≤ a) → ((y : ℕ) × Earliest a x y) ⊎ ((k : ℕ) → k ≤ n → Room a x k → ⊥)
  table_or_past n a x matching tables (inl low) = tables a x
  table_or_past n a x matching tables (inr past) = inl (x, earliest_past a x matching past)

  -- and the tables go on past the end
  all_past : (n a x : ℕ) (matching : IsMatching network.children positions plans) (tables : Tables naming problem states network positions plans n)
      (side : (a < length network.children) ⊎ (length network.children ≤ a)) → length network.children ≤ a
      → (found : (y : ℕ) × Earliest a x y) × (table_or_past n a x matching tables side ≡ inl found)
  all_past n a x matching tables (inl low) past = absurd (omega arith)
  all_past n a x matching tables (inr up) past = ((x, earliest_past a x matching up), refl)

  -- there are greedy spans, or none at all
  greedy_exists : (g n : ℕ) → IsMatching network.children positions plans → Tables naming problem states network positions plans n
      → ((start : ℕ → ℕ) × (finish : ℕ → ℕ) × Greedy g start finish) ⊎ ((h : ℕ) (start finish : ℕ → ℕ) → h ≤ n → Spans g h start finish → ⊥)
  greedy_exists g n matching tables =
      greedy_or_none g n (λ a x. table_or_past n a x matching tables (cases_lt a (length network.children)))
      (λ a x past. all_past n a x matching tables (cases_lt a (length network.children)) past)

-- ## Tables of positions from those of lines

-- the least number of which it holds, or that there is none up to n
abbrev Table : (ℕ → Type 0) → ℕ → Type 0
Table A n = ((y : ℕ) × A y × ((k : ℕ) → A k → y ≤ k)) ⊎ ((k : ℕ) → k ≤ n → A k → ⊥)

-- what holds at a gap holds at later ones
abbrev IsUp : (ℕ → Type 0) → Type 0
IsUp A = (y z : ℕ) → y ≤ z → A y → A z

-- of two conditions that stay true the later one tells
both : (A B : ℕ → Type 0) (n : ℕ) → IsUp A → IsUp B → Table A n → Table B n → Table (λ y. A y × B y) n
both A B n up_a up_b (inl (x, a, least_a)) (inl (y, b, least_b)) = elim (cases_lt x y) [
  | inl less ↦ inl (y, ((up_a x y (omega arith) a), b), (λ k h. least_b k h.1))
  | inr other ↦ inl (x, (a, up_b y x other b), (λ k h. least_a k h.0))
]
both A B n up_a up_b (inl found) (inr none) = inr (λ k low h. none k low h.1)
both A B n up_a up_b (inr none) table = inr (λ k low h. none k low h.0)

module _ (naming : Naming) (problem : Problem) (states : ℕ → State) where
  -- a step that fits fits up to later gaps
  step_up : (literals : List Literal) (x : ℕ) → IsUp (StepFits states literals x)
  step_up literals x y z low (gap, from, to, holds) = (gap, from, omega arith, holds)

  -- the next gap, where the literals fail in this one
  not_here : (literals : List Literal) (x gap : ℕ) → holds (states x) literals ≡ false → x ≤ gap → holds (states gap) literals ≡ true → suc x ≤ gap
  not_here literals x gap fails from there = elim (cases_lt x gap) [
    | inl less ↦ less
    | inr other ↦ (let same : gap ≡ x = omega arith in absurd (both_ways (holds (states x) literals) fails (subst (λ j. holds (states j) literals ≡ true) same there)))
  ]

  -- the first gap from x on where the literals hold, if one is among the next m
  step_search : (literals : List Literal) (m x n : ℕ) → n < x + m → Table (StepFits states literals x) n
  step_search literals zero x n long = inr (λ k low fits. let (gap, from, to, there) = fits in omega arith)
  step_search literals (suc m) x n long = by (holds (states x) literals) refl (step_search literals m (suc x) n (omega arith))
    where
      by : (b : Bool) → holds (states x) literals ≡ b → Table (StepFits states literals (suc x)) n → Table (StepFits states literals x) n
      by true e more = inl (x, (x, (let w : x ≤ x = omega arith in w), (let w : x ≤ x = omega arith in w), e), (λ k fits. let (gap, from, to, there) = fits in omega arith))
      by false e (inl found) =
          let (gap, from, to, there) = found.1 in
          inl (found.0, (gap, (omega arith), to, there), (λ k fits. let (other, low, up, holds_there) = fits in found.2 k (other, not_here literals x other e low holds_there, up, holds_there)))
      by false e (inr none) = inr (λ k low fits. let (gap, from, to, there) = fits in none k low (gap, not_here literals x gap e from there, to, there))

  -- the step at a position has room
  abbrev StepRoom : List Child → ℕ → ℕ → ℕ → Type 0
  StepRoom children a x y = (literals : List Literal) → slice_get children a ≡ Some (precondition literals) → StepFits states literals x y

  -- so has a position room for it
  step_room_up : (children : List Child) (a x : ℕ) → IsUp (StepRoom children a x)
  step_room_up children a x y z low h literals e = step_up literals x y z low (h literals e)

  -- the table of a step
  step_table : (children : List Child) (a x n : ℕ) → Table (StepRoom children a x) n
  step_table children a x n = by (slice_get children a) refl
    where
      no_step : ((literals : List Literal) → slice_get children a ≡ Some (precondition literals) → ⊥) → Table (StepRoom children a x) n
      no_step not_step = inl (0, (λ literals e. absurd (not_step literals e)), (λ k h. omega arith))

      a_step : (literals : List Literal) → slice_get children a ≡ Some (precondition literals) → Table (StepFits states literals x) n → Table (StepRoom children a x) n
      a_step literals e (inl found) = inl (
        found.0,
        (λ others f. let both : Some (precondition literals) ≡ Some (precondition others) = sym e ∙ f in
            let same : literals ≡ others = cc in subst (λ l. StepFits states l x found.0) same found.1),
        (λ k h. found.2 k (h literals e)),
      )
      a_step literals e (inr none) = inr (λ k low h. none k low (h literals e))

      by : (c : Option Child) → slice_get children a ≡ c → Table (StepRoom children a x) n
      by None e = no_step (λ literals f. absurd cc)
      by (Some (precondition literals)) e = a_step literals e (step_search literals (suc n) x n (omega arith))
      by (Some (action g)) e = no_step (λ literals f. let both : Some (action g) ≡ Some (precondition literals) = sym e ∙ f in absurd cc)
      by (Some (task t)) e = no_step (λ literals f. let both : Some (task t) ≡ Some (precondition literals) = sym e ∙ f in absurd cc)

  -- the plan at a position has room
  abbrev PlanRoom : List ℕ → PlanTrees → ℕ → ℕ → ℕ → Type 0
  PlanRoom = PlanHasRoom naming problem states

  -- a plan that has room has it up to later gaps
  plan_room_up : (positions : List ℕ) (plans : PlanTrees) (a x : ℕ) → IsUp (PlanRoom positions plans a x)
  plan_room_up positions no_plans a x y z low h = tt
  plan_room_up [] (plan p plans) a x y z low h = tt
  plan_room_up (b ∷ positions) (plan p plans) a x y z low h = (
    (λ e. fits_monotone naming problem states p x y x z (let w : x ≤ x = omega arith in w) low (h.0 e)),
    plan_room_up positions plans a x y z low h.1,
  )

  -- a line's table at its own position
  line_table_at : (n a b x : ℕ) (p : PlanTree) → LineTable naming problem states n p → Table (λ y. a ≡ b → Fits naming problem states p x y) n
  line_table_at n a b x p table = by (cases_eq a b) (table x)
    where
      by : (a ≡ b) ⊎ (a ≡ b → ⊥) → ((y : ℕ) × IsEarliest naming problem states p x y) ⊎ ((k : ℕ) → k ≤ n → Fits naming problem states p x k → ⊥)
          → Table (λ y. a ≡ b → Fits naming problem states p x y) n
      by (inl same) (inl found) = inl (found.0, (λ e. found.1.fits), (λ k h. found.1.least k (h same)))
      by (inl same) (inr none) = inr (λ k low h. none k low (h same))
      by (inr other) table_there = inl (0, (λ e. absurd (other e)), (λ k h. omega arith))

  -- the table of the plans at a position
  plan_table : (positions : List ℕ) (plans : PlanTrees) (a x n : ℕ) → LineTables naming problem states n plans → Table (PlanRoom positions plans a x) n
  plan_table positions no_plans a x n tables = inl (0, tt, (λ k h. omega arith))
  plan_table [] (plan p plans) a x n tables = inl (0, tt, (λ k h. omega arith))
  plan_table (b ∷ positions) (plan p plans) a x n tables =
      both (λ y. a ≡ b → Fits naming problem states p x y) (PlanRoom positions plans a x) n
      (λ y z low h e. fits_monotone naming problem states p x y x z (let w : x ≤ x = omega arith in w) low (h e))
      (plan_room_up positions plans a x)
      (line_table_at n a b x p tables.0) (plan_table positions plans a x n tables.1)

  -- the tables of the positions
  tables_of : (network : Network) (positions : List ℕ) (plans : PlanTrees) (n : ℕ) → LineTables naming problem states n plans → Tables naming problem states network positions plans n
  tables_of network positions plans n tables a x =
      by (both (λ y. x ≤ y) (λ y. StepRoom network.children a x y × PlanRoom positions plans a x y) n (λ y z low h. omega arith)
      (λ y z low h. (step_room_up network.children a x y z low h.0, plan_room_up positions plans a x y z low h.1))
      (inl (x, (let w : x ≤ x = omega arith in w), (λ k h. h)))
      (both (StepRoom network.children a x) (PlanRoom positions plans a x) n (step_room_up network.children a x) (plan_room_up positions plans a x)
      (step_table network.children a x n) (plan_table positions plans a x n tables)))
    where
      by : Table (λ y. (x ≤ y) × (StepRoom network.children a x y × PlanRoom positions plans a x y)) n
          → ((y : ℕ) × IsEarliestAt naming problem states network positions plans a x y) ⊎ ((k : ℕ) → k ≤ n → HasRoomAt naming problem states network positions plans a x k → ⊥)
      by (inl found) = inl (
        found.0,
        record {
          room = record { forward = found.1.0; step = found.1.1.0; plan = found.1.1.1 };
          least = λ k r. found.2 k (r.forward, (r.step, r.plan));
        },
      )
      by (inr none) = inr (λ k low r. none k low (r.forward, (r.step, r.plan)))

  -- a network fits exactly where greedy spans do
  fits_greedily : (network : Network) (plans : PlanTrees) (n g h : ℕ) → IsNetwork network → LineTables naming problem states n plans → h ≤ n
      → NetworkFits naming problem states network plans g h → FitsGreedily naming problem states network plans g h
  fits_greedily network plans n g h is_network tables low (positions, matching, start, finish, spans, steps, fits) =
      by (greedy_exists naming problem states network positions plans is_network g n matching (tables_of network positions plans n tables))
    where
      by : ((start : ℕ → ℕ) × (finish : ℕ → ℕ) × IsGreedy naming problem states network positions plans g start finish)
          ⊎ ((h : ℕ) (start finish : ℕ → ℕ) → h ≤ n → HaveSpans naming problem states network positions plans g h start finish → ⊥)
          → FitsGreedily naming problem states network plans g h
      by (inl (first, last, greedy)) = (
        positions,
        matching,
        first,
        last,
        greedy,
        (λ a. let least = greedy_least naming problem states network positions plans is_network g h first last start finish greedy (record { spans = spans; steps = steps; fits = fits }) a in
            let to = spans.to a in omega arith),
      )
      by (inr none) = absurd (none h start finish low (record { spans = spans; steps = steps; fits = fits }))

-- greedy spans decide room in a network
pub greedy_spans_decide : (naming : Naming) (problem : Problem) → GreedySpansDecide naming problem
greedy_spans_decide naming problem = record {
  at_positions = λ states network positions plans is_network. record {
    fit = greedy_fit naming problem states network positions plans is_network;
    least = λ g h start finish other_start other_finish matching. greedy_least naming problem states network positions plans is_network g h start finish other_start other_finish;
    exist = greedy_exists naming problem states network positions plans is_network;
  };
  tables = λ states. tables_of naming problem states;
  greedily = λ states network plans n g h is_network tables low. (
    fits_greedily naming problem states network plans n g h is_network tables low,
    (λ found. greedy_fit naming problem states network found.0 plans is_network g h found.2 found.3 found.1 found.4 found.5),
  );
}

-- no line has room backwards
fits_forward : (naming : Naming) (problem : Problem) (states : ℕ → State) (p : PlanTree) (g h : ℕ) → Fits naming problem states p g h → g ≤ h
fits_forward naming problem states (action_at t i) g h (from, to) = omega arith
fits_forward naming problem states (decomposition t method plans) g h (number, network, found, name, room) =
    let spans = room.4 in let low = spans.from 0 in let forward = spans.forward 0 in let high = spans.to 0 in omega arith

-- and the earliest finish of a line
pub lines_decide : (naming : Naming) (problem : Problem) → IsGrounded problem → LinesDecide naming problem
lines_decide naming problem grounded = record {
  some = λ states t method plans n g h number network tables low found name greedy others. record {
    fits = (
      number,
      network,
      found,
      name,
      greedy_fit naming problem states network greedy.0 plans (grounded.methods t number network found) g h greedy.2 greedy.3 greedy.1 greedy.4 greedy.5,
    );
    least = λ k fits. by_bound naming problem grounded states t method plans n g h k tables low others fits (cases_lt n k);
  };
  none = λ states t method plans n g tables others k low fits.
      let (number, network, found, name, room) = fits in
      others k number network low found name (fits_greedily naming problem states network plans n g k (grounded.methods t number network found) tables low room);
  forward = fits_forward naming problem;
  action = λ states t i g low. record { fits = (low, (let e : i < suc i = omega arith in e)); least = λ k fits. fits.1 };
  past_action = λ states t i g h past fits. (let low = fits.0 in omega arith);
}
  where
    by_bound : (naming : Naming) (problem : Problem) (grounded : IsGrounded problem) (states : ℕ → State) (t : GroundTask) (method : Word) (plans : PlanTrees) (n g h k : ℕ)
        → LineTables naming problem states n plans → h ≤ n
        → ((k other : ℕ) (inner : Network) → k ≤ n → slice_get (problem.methods_of t) other ≡ Some inner → method ≡ naming.method_name t other
        → FitsGreedily naming problem states inner plans g k → h ≤ k)
        → Fits naming problem states (decomposition t method plans) g k → (n < k) ⊎ (k ≤ n) → h ≤ k
    by_bound naming problem grounded states t method plans n g h k tables low others fits (inl past) = omega arith
    by_bound naming problem grounded states t method plans n g h k tables low others (number, network, found, name, room) (inr within) =
        others k number network within found name (fits_greedily naming problem states network plans n g k (grounded.methods t number network found) tables within room)
