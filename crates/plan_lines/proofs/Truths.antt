-- Truth by turns: how it comes from the number of those passed, and what one more does.
use Rattle.std.proofs.Common.{◌≡◌, ℕ, zero, suc, ◌+◌, ◌*◌, ◌%◌, ◌/◌, ◌<◌, ◌≤◌, Bool, true, false, not, cond, ltb, eqb, List, [], ◌∷◌, ◌++◌, length, get_or, Option, Some, None, slice_get, take, ◌-◌, ◌⊎◌, inl, inr, refl, sym, ap, ap₂, ◌∙◌, subst, arith}
use Rattle.std.specs.Bool.{beq}
use Rattle.std.proofs.lemmas.Bool.{both_ways, cases_lt, lt-ltb, le-ltb}
use Rattle.std.proofs.lemmas.List.{length-append, get_or_append_left, get_or_at, take_at}
use Rattle.std.proofs.lemmas.Option.{slice_get-get_or, slice_get_past}
use Rattle.plan_lines.specs.Turns.{is_true_in, is_turned, IsRising, Splits, IsTurnedOver, IsLastGap, IsNextGap}

-- ## Turns passed

-- what is so in a gap is so after as many turns as are up to it
pub split_truth : (first : Bool) (turns : List ℕ) (gap passed : ℕ) → Splits turns gap passed → is_true_in first turns gap ≡ is_turned first passed
split_truth first [] gap zero s = refl
split_truth first [] gap (suc passed) s = let w = s.within in absurd (omega arith)
split_truth first (t ∷ turns) gap zero s = ap (λ b. cond b first (is_true_in (not first) turns gap)) (lt-ltb gap t (s.high 0 (omega arith) (omega arith)))
split_truth first (t ∷ turns) gap (suc passed) s =
    ap (λ b. cond b first (is_true_in (not first) turns gap)) (le-ltb gap t (s.low 0 (omega arith)))
    ∙ split_truth (not first) turns gap passed
    (record { low = λ i h. s.low (suc i) (omega arith); high = λ i h l. s.high (suc i) (omega arith) (omega arith); within = (let w = s.within in omega arith) })

-- twice turned over
not_not : (b : Bool) → not (not b) ≡ b
not_not true = refl
not_not false = refl

-- one turn more
pub turned_more : (first : Bool) (n : ℕ) → is_turned first (suc n) ≡ not (is_turned first n)
turned_more first zero = refl
turned_more first (suc n) = turned_more (not first) n

-- an even number of turns
turned_twice : (first : Bool) (q : ℕ) → is_turned first (q + q) ≡ first
turned_twice first zero = refl
turned_twice first (suc q) =
    let e : suc q + suc q ≡ suc (suc (q + q)) = omega arith in
    ap (is_turned first) e ∙ turned_twice (not (not first)) q ∙ not_not first

-- an even number of turns changes nothing, an odd one turns it over
pub turned_by : (first : Bool) (n : ℕ) → cond (eqb (n % 2) 0) first (not first) ≡ is_turned first n
turned_by first n = by (n % 2) (n / 2) (omega arith) (omega arith)
  where
    by : (r q : ℕ) → n ≡ 2 * q + r → r < 2 → cond (eqb r 0) first (not first) ≡ is_turned first n
    by zero q e h = let same : n ≡ q + q = omega arith in sym (ap (is_turned first) same ∙ turned_twice first q)
    by (suc zero) q e h = let same : n ≡ suc (q + q) = omega arith in sym (ap (is_turned first) same ∙ turned_more first (q + q) ∙ ap not (turned_twice first q))
    by (suc (suc r)) q e h = absurd (omega arith)

-- ## The next gap

-- equal truths
is_beq : (a b : Bool) → a ≡ b → beq a b ≡ true
is_beq true true e = refl
is_beq true false e = absurd cc
is_beq false true e = absurd cc
is_beq false false e = refl

-- different truths
not_beq : (a b : Bool) → (a ≡ b → ⊥) → beq a b ≡ false
not_beq true true n = absurd (n refl)
not_beq true false n = refl
not_beq false true n = refl
not_beq false false n = absurd (n refl)

-- different truths, one of them turned over
turned_beq : (a b : Bool) → (a ≡ b → ⊥) → beq (not a) b ≡ true
turned_beq true true n = absurd (n refl)
turned_beq true false n = refl
turned_beq false true n = refl
turned_beq false false n = absurd (n refl)

-- the first gap from one on, however late, that passes the test
abbrev pub IsNext : (ℕ → Bool) → ℕ → Option ℕ → Type 0
IsNext test from None = (k : ℕ) → from ≤ k → test k ≡ false
IsNext test from (Some gap) = (from ≤ gap) × (test gap ≡ true) × ((k : ℕ) → from ≤ k → k < gap → test k ≡ false)

-- it is the next one up to a last gap where it comes no later
pub next_up_to : (test : ℕ → Bool) (from last gap : ℕ) → IsNext test from (Some gap) → gap ≤ last → IsNextGap test from last (Some gap)
next_up_to test from last gap (after, there, none) low = (after, low, there, none)

-- and else there is none up to that gap
pub none_up_to : (test : ℕ → Bool) (from last gap : ℕ) → IsNext test from (Some gap) → last < gap → IsNextGap test from last None
none_up_to test from last gap (after, there, none) high k m b = none k m (omega arith)

-- where it is so already
pub next_here : (first : Bool) (turns : List ℕ) (wanted : Bool) (from passed : ℕ) → Splits turns from passed → is_turned first passed ≡ wanted
    → IsNext (λ k. beq (is_true_in first turns k) wanted) from (Some from)
next_here first turns wanted from passed s is = (omega arith, is_beq _ wanted (split_truth first turns from passed s ∙ is), (λ k h l. absurd (omega arith)))

-- and else at the next turn
pub next_there : (first : Bool) (turns : List ℕ) (wanted : Bool) (from passed last : ℕ) → IsRising last turns → Splits turns from passed
    → (is_turned first passed ≡ wanted → ⊥) → IsNext (λ k. beq (is_true_in first turns k) wanted) from (slice_get turns passed)
next_there first turns wanted from passed last rising s other = by (cases_lt passed (length turns))
  where
    until : (k : ℕ) → from ≤ k → ((i : ℕ) → passed ≤ i → i < length turns → k < get_or turns i 0) → beq (is_true_in first turns k) wanted ≡ false
    until k h high =
        not_beq _ wanted (λ e. other (sym (split_truth first turns k passed (record { low = λ i l. (let b = s.low i l in omega arith); high = high; within = s.within })) ∙ e))

    at_turn : passed < length turns → Splits turns (get_or turns passed 0) (suc passed)
    at_turn h = record {
      low = λ i l. elim (cases_lt i passed) [
        | inl less ↦ (let r = rising.rising i passed less h in omega arith)
        | inr more ↦ (let same : i ≡ passed = omega arith in subst (λ j. get_or turns j 0 ≤ get_or turns passed 0) (sym same) (omega arith))
      ];
      high = λ i m l. rising.rising passed i (omega arith) l;
      within = omega arith;
    }

    later : (i : ℕ) → passed ≤ i → i < length turns → passed < length turns → get_or turns passed 0 ≤ get_or turns i 0
    later i m l h = elim (cases_lt passed i) [
      | inl less ↦ (let r = rising.rising passed i less l in omega arith)
      | inr more ↦ (let same : passed ≡ i = omega arith in subst (λ j. get_or turns passed 0 ≤ get_or turns j 0) same (omega arith))
    ]

    by : (passed < length turns) ⊎ (length turns ≤ passed) → IsNext (λ k. beq (is_true_in first turns k) wanted) from (slice_get turns passed)
    by (inl low) =
        let after = s.high passed (omega arith) low in
        subst (IsNext (λ k. beq (is_true_in first turns k) wanted) from) (sym (slice_get-get_or turns passed 0 low)) (
          (omega arith),
          subst (λ b. beq b wanted ≡ true) (sym (split_truth first turns (get_or turns passed 0) (suc passed) (at_turn low) ∙ turned_more first passed)) (turned_beq _ wanted other),
          (λ k h l. until k h (λ i m n. let r = later i m n low in omega arith)),
        )
    by (inr high) =
        subst (IsNext (λ k. beq (is_true_in first turns k) wanted) from) (sym (slice_get_past turns passed high))
        (λ k h. until k h (λ i m l. absurd (omega arith)))

-- ## One turn more

-- all turns are passed in the last gap
pub all_passed : (last : ℕ) (turns : List ℕ) (gap : ℕ) → IsRising last turns → last ≤ gap → Splits turns gap (length turns)
all_passed last turns gap rising h = record {
  low = λ i l. (let r = rising.low i l in omega arith);
  high = λ i m l. absurd (omega arith);
  within = omega arith;
}

-- a turn shows nowhere before it
pub before_turn : (first : Bool) (turns : List ℕ) (gap k : ℕ) → k < gap → is_true_in first (turns ++ gap ∷ []) k ≡ is_true_in first turns k
before_turn first [] gap k h = ap (λ b. cond b first (not first)) (lt-ltb k gap h)
before_turn first (t ∷ turns) gap k h = ap (cond (ltb k t) first) (before_turn (not first) turns gap k h)

-- gaps without the last one rise
front_rising : (turns : List ℕ) (gap last : ℕ) → IsRising last (turns ++ gap ∷ []) → IsRising last turns
front_rising turns gap last rising =
    let long = length-append turns (gap ∷ []) in
    let same : (i : ℕ) → i < length turns → get_or (turns ++ gap ∷ []) i 0 ≡ get_or turns i 0 = λ i h. get_or_append_left turns (gap ∷ []) 0 i h in
    record {
      rising = λ i j h l. (let a = same i (omega arith) in let b = same j l in let r = rising.rising i j h (omega arith) in omega arith);
      low = λ i l. (let a = same i l in let r = rising.low i (omega arith) in omega arith);
    }

-- a turn at the last gap
pub turn_added : (turns : List ℕ) (gap : ℕ) → IsRising gap turns → ((i : ℕ) → i < length turns → get_or turns i 0 < gap) → IsTurnedOver turns (turns ++ gap ∷ []) gap
turn_added turns gap rising low =
    let long = length-append turns (gap ∷ []) in
    let same : (i : ℕ) → i < length turns → get_or (turns ++ gap ∷ []) i 0 ≡ get_or turns i 0 = λ i h. get_or_append_left turns (gap ∷ []) 0 i h in
    let end : get_or (turns ++ gap ∷ []) (length turns) 0 ≡ gap = get_or_at turns gap [] 0 (length turns) refl in
    let new : IsRising gap (turns ++ gap ∷ []) = record {
      rising = λ i j h l. elim (cases_lt j (length turns)) [
        | inl less ↦ (let a = same i (omega arith) in let b = same j less in let r = rising.rising i j h less in omega arith)
        | inr more ↦ (let e : j ≡ length turns = omega arith in
            let b : get_or (turns ++ gap ∷ []) j 0 ≡ gap = ap (λ k. get_or (turns ++ gap ∷ []) k 0) e ∙ end in
            let a = same i (omega arith) in let r = low i (omega arith) in omega arith)
      ];
      low = λ i l. elim (cases_lt i (length turns)) [
        | inl less ↦ (let a = same i less in let r = rising.low i less in omega arith)
        | inr more ↦ (let e : i ≡ length turns = omega arith in
            let b : get_or (turns ++ gap ∷ []) i 0 ≡ gap = ap (λ k. get_or (turns ++ gap ∷ []) k 0) e ∙ end in omega arith)
      ];
    } in
    record {
      rising = new;
      before = λ first k h. before_turn first turns gap k h;
      here = λ first.
          split_truth first (turns ++ gap ∷ []) gap (length (turns ++ gap ∷ [])) (all_passed gap (turns ++ gap ∷ []) gap new (omega arith))
          ∙ ap (is_turned first) (let e : length (turns ++ gap ∷ []) ≡ suc (length turns) = omega arith in e) ∙ turned_more first (length turns)
          ∙ ap not (sym (split_truth first turns gap (length turns) (all_passed gap turns gap rising (omega arith))));
    }

-- a turn at the last gap taken back
pub turn_undone : (front : List ℕ) (gap : ℕ) → IsRising gap (front ++ gap ∷ []) → IsTurnedOver (front ++ gap ∷ []) front gap
turn_undone front gap rising =
    let long = length-append front (gap ∷ []) in
    let end : get_or (front ++ gap ∷ []) (length front) 0 ≡ gap = get_or_at front gap [] 0 (length front) refl in
    let before : IsRising gap front = front_rising front gap gap rising in
    let low : (i : ℕ) → i < length front → get_or front i 0 < gap = λ i h.
    (let a : get_or (front ++ gap ∷ []) i 0 ≡ get_or front i 0 = get_or_append_left front (gap ∷ []) 0 i h in
    let r = rising.rising i (length front) h (omega arith) in omega arith) in
    let over = turn_added front gap before low in
    record {
      rising = before;
      before = λ first k h. sym (over.before first k h);
      here = λ first. sym (ap not (over.here first) ∙ not_not (is_true_in first front gap));
    }

-- where the last turn isn't at the last gap, all are before it
pub all_before : (turns : List ℕ) (gap : ℕ) → IsRising gap turns → ((front : List ℕ) → turns ≡ front ++ gap ∷ [] → ⊥) → (i : ℕ) → i < length turns → get_or turns i 0 < gap
all_before turns gap rising other i h = by (length turns) refl
  where
    last_split : (xs : List ℕ) (n : ℕ) → length xs ≡ suc n → (front : List ℕ) × (xs ≡ front ++ get_or xs n 0 ∷ [])
    last_split [] n e = absurd (omega arith)
    last_split (x ∷ []) n e = let z : n ≡ 0 = omega arith in ([], ap (λ k. get_or (x ∷ []) k 0 ∷ []) (sym z))
    last_split (x ∷ y ∷ xs) zero e = absurd (omega arith)
    last_split (x ∷ y ∷ xs) (suc n) e = let (front, is) = last_split (y ∷ xs) n (omega arith) in (x ∷ front, ap (λ ys. x ∷ ys) is)

    by : (n : ℕ) → length turns ≡ n → get_or turns i 0 < gap
    by zero e = absurd (omega arith)
    by (suc n) e =
        let (front, is) = last_split turns n e in
        let low = rising.low n (omega arith) in
        let not_gap : get_or turns n 0 ≡ gap → ⊥ = λ same. other front (is ∙ ap (λ x. front ++ x ∷ []) same) in
        let below : get_or turns n 0 < gap = elim (cases_lt (get_or turns n 0) gap) [ inl less ↦ less | inr more ↦ absurd (not_gap (omega arith)) ] in
        elim (cases_lt i n) [
          | inl less ↦ (let r = rising.rising i n less (omega arith) in omega arith)
          | inr more ↦ (let same : i ≡ n = omega arith in subst (λ k. get_or turns k 0 < gap) (sym same) below)
        ]

-- ## What a search finds

-- a gap that is found is passed
pub found_passed : (last : ℕ) (turns : List ℕ) (gap place : ℕ) → IsRising last turns → (place < length turns) × (get_or turns place 0 ≡ gap) → Splits turns gap (place + 1)
found_passed last turns gap place rising (low, is) = record {
  low = λ i h. elim (cases_lt i place) [
    | inl less ↦ (let r = rising.rising i place less low in omega arith)
    | inr more ↦ (let same : i ≡ place = omega arith in subst (λ j. get_or turns j 0 ≤ gap) (sym same) (omega arith))
  ];
  high = λ i m l. (let r = rising.rising place i (omega arith) l in omega arith);
  within = omega arith;
}

-- a gap that is missing has its place between the others
pub missing_passed : (turns : List ℕ) (gap place : ℕ)
    → (place ≤ length turns) × ((k : ℕ) → k < place → get_or turns k 0 < gap) × ((k : ℕ) → place ≤ k → k < length turns → gap < get_or turns k 0) → Splits turns gap place
missing_passed turns gap place (within, low, high) = record { low = λ i h. (let l = low i h in omega arith); high = high; within = within }

-- gaps that rise never fall
pub rising_up : (last : ℕ) (turns : List ℕ) → IsRising last turns → (i j : ℕ) → i ≤ j → j < length turns → get_or turns i 0 ≤ get_or turns j 0
rising_up last turns rising i j h l = elim (cases_lt i j) [
  | inl less ↦ (let r = rising.rising i j less l in omega arith)
  | inr more ↦ (let same : i ≡ j = omega arith in subst (λ k. get_or turns i 0 ≤ get_or turns k 0) same (omega arith))
]

-- ## Tests of truth

-- a test of equal truths
pub beq_same : (a b : Bool) → beq a b ≡ true → a ≡ b
beq_same true true h = refl
beq_same true false h = absurd cc
beq_same false true h = absurd cc
beq_same false false h = refl

-- and of different ones
pub beq_other : (a b : Bool) → beq a b ≡ false → a ≡ b → ⊥
beq_other a b h same = both_ways _ h (is_beq a b same)

-- the next turn, where there is one
pub next_turn : (first : Bool) (turns : List ℕ) (wanted : Bool) (from passed last : ℕ) → IsRising last turns → Splits turns from passed
    → (is_turned first passed ≡ wanted → ⊥) → passed < length turns → IsNext (λ k. beq (is_true_in first turns k) wanted) from (Some (get_or turns passed 0))
next_turn first turns wanted from passed last rising s other low =
    subst (IsNext (λ k. beq (is_true_in first turns k) wanted) from) (slice_get-get_or turns passed 0 low) (next_there first turns wanted from passed last rising s other)

-- and where there is none
pub no_turn : (first : Bool) (turns : List ℕ) (wanted : Bool) (from passed last : ℕ) → IsRising last turns → Splits turns from passed
    → (is_turned first passed ≡ wanted → ⊥) → length turns ≤ passed → IsNext (λ k. beq (is_true_in first turns k) wanted) from None
no_turn first turns wanted from passed last rising s other high =
    subst (IsNext (λ k. beq (is_true_in first turns k) wanted) from) (slice_get_past turns passed high) (next_there first turns wanted from passed last rising s other)

-- what is left once the last one is taken off
pub popped : (front old new : List ℕ) (gap n : ℕ) → old ≡ front ++ gap ∷ [] → n ≡ length old → new ≡ take (n - 1) old → new ≡ front
popped front old new gap n whole long rest =
    let many = length-append front (gap ∷ []) in
    let all = ap length whole in
    let count : n - 1 ≡ length front = omega arith in
    rest ∙ ap₂ take count whole ∙ take_at front (gap ∷ []) (length front) refl

-- what is not false
pub not_false : (b : Bool) → not b ≡ false → b ≡ true
not_false true h = refl
not_false false h = absurd cc

-- what is not true
pub not_true : (b : Bool) → not b ≡ true → b ≡ false
not_true true h = absurd cc
not_true false h = refl

-- ## The last gap

-- where it is so in the gap itself
pub last_here : (first : Bool) (turns : List ℕ) (wanted : Bool) (gap passed : ℕ) → Splits turns gap passed → is_turned first passed ≡ wanted
    → IsLastGap (λ k. beq (is_true_in first turns k) wanted) gap (Some gap)
last_here first turns wanted gap passed s is = (omega arith, is_beq _ wanted (split_truth first turns gap passed s ∙ is), (λ k h l. absurd (omega arith)))

-- where it isn't, and nothing has turned up to the gap
pub never_before : (first : Bool) (turns : List ℕ) (wanted : Bool) (gap : ℕ) → Splits turns gap 0 → (is_turned first 0 ≡ wanted → ⊥)
    → IsLastGap (λ k. beq (is_true_in first turns k) wanted) gap None
never_before first turns wanted gap s other k h =
    not_beq _ wanted (λ e. other (sym (split_truth first turns k 0 (record { low = λ i l. absurd (omega arith); high = λ i m l. (let b = s.high i m l in omega arith); within = s.within })) ∙ e))

-- from the last turn up to the gap it isn't so
since_turn : (first : Bool) (turns : List ℕ) (wanted : Bool) (gap passed last : ℕ) → IsRising last turns → Splits turns gap (suc passed)
    → (is_turned first (suc passed) ≡ wanted → ⊥) → (k : ℕ) → get_or turns passed 0 ≤ k → k ≤ gap → beq (is_true_in first turns k) wanted ≡ false
since_turn first turns wanted gap passed last rising s other k m h =
    not_beq _ wanted (λ e. other (sym (split_truth first turns k (suc passed) (record {
      low = λ i l. (let r = rising_up last turns rising i passed (omega arith) (let w = s.within in omega arith) in omega arith);
      high = λ i n l. (let b = s.high i n l in omega arith);
      within = s.within;
    })) ∙ e))

-- where it has turned in the first gap last, it never was so
pub turned_first : (first : Bool) (turns : List ℕ) (wanted : Bool) (gap passed last : ℕ) → IsRising last turns → Splits turns gap (suc passed)
    → (is_turned first (suc passed) ≡ wanted → ⊥) → get_or turns passed 0 ≡ 0 → IsLastGap (λ k. beq (is_true_in first turns k) wanted) gap None
turned_first first turns wanted gap passed last rising s other z k h = since_turn first turns wanted gap passed last rising s other k (omega arith) h

-- and else it was so right before the last turn
pub before_last : (first : Bool) (turns : List ℕ) (wanted : Bool) (gap passed last before : ℕ) → IsRising last turns → Splits turns gap (suc passed)
    → (is_turned first (suc passed) ≡ wanted → ⊥) → get_or turns passed 0 ≡ suc before → IsLastGap (λ k. beq (is_true_in first turns k) wanted) gap (Some before)
before_last first turns wanted gap passed last before rising s other is =
    let low = s.low passed (omega arith) in
    let within = s.within in
    let split : Splits turns before passed = record {
      low = λ i l. (let r = rising.rising i passed l (omega arith) in omega arith);
      high = λ i m l. (let r = rising_up last turns rising passed i m l in omega arith);
      within = omega arith;
    } in (
      (omega arith),
      subst (λ b. beq b wanted ≡ true) (sym (split_truth first turns before passed split)) (was (is_turned first passed) wanted (λ e. other (turned_more first passed ∙ e))),
      (λ k h l. since_turn first turns wanted gap passed last rising s other k (omega arith) l),
    )
  where
    was : (a b : Bool) → (not a ≡ b → ⊥) → beq a b ≡ true
    was true true n = refl
    was true false n = absurd (n refl)
    was false true n = absurd (n refl)
    was false false n = refl

-- both by the number of turns that are passed
pub first_turn : (first : Bool) (turns : List ℕ) (wanted : Bool) (gap passed last : ℕ) → IsRising last turns → Splits turns gap passed
    → (is_turned first passed ≡ wanted → ⊥) → (passed ≡ 0 → ⊥) → get_or turns (passed - 1) 0 ≡ 0 → IsLastGap (λ k. beq (is_true_in first turns k) wanted) gap None
first_turn first turns wanted gap zero last rising s other some z = absurd (some refl)
first_turn first turns wanted gap (suc passed) last rising s other some z =
    let same : suc passed - 1 ≡ passed = omega arith in
    turned_first first turns wanted gap passed last rising s other (ap (λ p. get_or turns p 0) (sym same) ∙ z)

pub later_turn : (first : Bool) (turns : List ℕ) (wanted : Bool) (gap passed last : ℕ) → IsRising last turns → Splits turns gap passed
    → (is_turned first passed ≡ wanted → ⊥) → (passed ≡ 0 → ⊥) → (get_or turns (passed - 1) 0 ≡ 0 → ⊥)
    → IsLastGap (λ k. beq (is_true_in first turns k) wanted) gap (Some (get_or turns (passed - 1) 0 - 1))
later_turn first turns wanted gap zero last rising s other some z = absurd (some refl)
later_turn first turns wanted gap (suc passed) last rising s other some z =
    let same : suc passed - 1 ≡ passed = omega arith in
    let turn : get_or turns (suc passed - 1) 0 ≡ get_or turns passed 0 = ap (λ p. get_or turns p 0) same in
    subst (λ t. IsLastGap (λ k. beq (is_true_in first turns k) wanted) gap (Some (t - 1))) (sym turn)
    (before_last first turns wanted gap passed last (get_or turns passed 0 - 1) rising s other (let other_turn : get_or turns passed 0 ≡ 0 → ⊥ = (λ e. z (turn ∙ e)) in omega arith))
