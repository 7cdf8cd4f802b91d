-- What lines and junctions tell.
use Rattle.std.proofs.Common.{◌≡◌, ℕ, Bool, true, false, not, cond, ◌&&◌, ◌<◌, ◌≤◌, ◌⊎◌, ◌↔◌, Some, None, List, [], refl, sym, ap, subst, ◌∙◌, arith, inl, inr, ⊎_elim, length, get_or, set, slice_get, nat_eq, unwrap_or, replicate, Option, IfSome, ◌/◌, get_or-set_same, get_or-set_other}
use Rattle.std.specs.List.{Contains, list_any, position, position_or_len}
use Rattle.std.proofs.lemmas.List.{get_or-replicate, get_or_past, get_or_default, length-replicate}
use Rattle.std.proofs.lemmas.Bool.{cases_lt, cases_eq, true≢false, and_parts, and_from, eqb-true, eq-eqb, lt-ltb}
use Rattle.std.proofs.lemmas.Cmp.{nat_eq_equiv}
use Rattle.std.proofs.lemmas.List.Quantifiers.{position-Some}
use Rattle.std.proofs.lemmas.List.Elements.{All-contains, All-from_get_or, Contains-get_or}
use Rattle.std.proofs.lemmas.Map.Views.{list_any-from_Contains, Contains-from_any}
use Rattle.std.proofs.lemmas.Option.{slice_get-get_or, slice_get_within, get_or_from_slice_get}
use Rattle.htn_order.specs.Closure.{Precedes, Direct, Through, AreBelow}
use Rattle.htn_order.proofs.Joining.{follow}
use Rattle.hddl_names.specs.Closures.{Closure, set_of, along_lines, AreSound, AreCarried, HaveOwn, IsWithin, PassesTo, LeadsTo, ShareJunction, Meet, Tells}
use Rattle.hddl_names.specs.Intervals.{IsInside, Tell, AreTops, top_at, start_of}
use Rattle.hddl_names.specs.NumberSets.{has}
use Rattle.hddl_names.specs.Reach.{Reaches}
use Rattle.hddl_names.specs.Rows.{AreRows, turned}
use Rattle.hddl_names.proofs.Found.{leading-small}
use Rattle.hddl_names.proofs.NumberBits.{past_has}
use Rattle.hddl_names.proofs.Parents.{turned-pair, unturned-pair}
use Rattle.hddl_names.proofs.Texts.{early}
use Rattle.hddl_names.proofs.Within.{kept, unkept, nothing}

-- ## Pairs along lines

-- whether a pair is along a line: not to 0, and from no junction
abbrev is_along : List ℕ → ℕ × ℕ → Bool
is_along junctions p = not (nat_eq p.1 0) && not (list_any (nat_eq p.0) junctions)

-- what fails has its opposite hold
not_true : (b : Bool) → b ≡ false → not b ≡ true
not_true b e = ap not e

-- a pair that is from no junction and not to 0 is along a line
along : (junctions : List ℕ) (pairs : List (ℕ × ℕ)) (a b : ℕ) → Contains {X = ℕ × ℕ} pairs (a, b) → 0 < b → list_any (nat_eq a) junctions ≡ false
    → Contains {X = ℕ × ℕ} (along_lines junctions pairs) (a, b)
along junctions pairs a b pair positive apart =
    kept (is_along junctions) pairs (a, b) pair (and_from (not (nat_eq b 0)) (not (list_any (nat_eq a) junctions)) (not_true (nat_eq b 0) (other (nat_eq b 0) refl)) (not_true (list_any (nat_eq a) junctions) apart))
  where
    other : (t : Bool) → nat_eq b 0 ≡ t → nat_eq b 0 ≡ false
    other true e = absurd (let zero = eqb-true b 0 e in omega (arith, zero, positive))
    other false e = e

-- the pairs along lines are pairs
all_along : (junctions : List ℕ) (pairs : List (ℕ × ℕ)) (a b : ℕ) → Contains {X = ℕ × ℕ} (along_lines junctions pairs) (a, b) → Contains {X = ℕ × ℕ} pairs (a, b)
all_along junctions pairs a b h = (unkept (is_along junctions) pairs (a, b) h).0

-- no pair along a line is from a junction
none_along : (junctions : List ℕ) (pairs : List (ℕ × ℕ)) (a b : ℕ) → Contains junctions a → Contains {X = ℕ × ℕ} (along_lines junctions pairs) (a, b) → ⊥
none_along junctions pairs a b there h =
    let passes = (and_parts (not (nat_eq b 0)) (not (list_any (nat_eq a) junctions)) (unkept (is_along junctions) pairs (a, b) h).1).1 in
    true≢false (sym passes ∙ ap not (list_any-from_Contains nat_eq_equiv a junctions there))

-- where pairs are among others, what leads along them does along the others
pub leads_more : (ps qs : List (ℕ × ℕ)) → ((a b : ℕ) → Contains {X = ℕ × ℕ} ps (a, b) → Contains {X = ℕ × ℕ} qs (a, b)) → (a b : ℕ) → Precedes ps a b → Precedes qs a b
leads_more ps qs more _ _ (Direct a b pair) = Direct a b (more a b pair)
leads_more ps qs more _ _ (Through a m b pair rest) = Through a m b (more a m pair) (leads_more ps qs more m b rest)

-- a way along some pairs is one along more
pub reaches_more : (ps qs : List (ℕ × ℕ)) → ((a b : ℕ) → Contains {X = ℕ × ℕ} ps (a, b) → Contains {X = ℕ × ℕ} qs (a, b)) → (a b : ℕ) → Reaches ps a b → Reaches qs a b
reaches_more ps qs more a b (inl is) = inl is
reaches_more ps qs more a b (inr r) = inr (leads_more ps qs more a b r)

-- a way and another from its end are one way
pub joined : (pairs : List (ℕ × ℕ)) (a b c : ℕ) → Reaches pairs a b → Reaches pairs b c → Reaches pairs a c
joined pairs a b c (inl is) r = subst (λ x. Reaches pairs x c) (sym is) r
joined pairs a b c (inr r) (inl is) = inr (subst (Precedes pairs a) is r)
joined pairs a b c (inr r) (inr s) = inr (follow pairs a b c r s)

-- pairs along lines are below the same bound
pub along_below : (junctions : List ℕ) (n : ℕ) (pairs : List (ℕ × ℕ)) → AreBelow n pairs → AreBelow n (along_lines junctions pairs)
along_below junctions n pairs below =
    All-from_get_or (λ (p : ℕ × ℕ). (p.0 < n) × (p.1 < n)) (along_lines junctions pairs) (0, 0)
    (λ i lt. All-contains (λ (p : ℕ × ℕ). (p.0 < n) × (p.1 < n)) pairs (get_or (along_lines junctions pairs) i (0, 0)) below
    (unkept (is_along junctions) pairs (get_or (along_lines junctions pairs) i (0, 0)) (Contains-get_or (along_lines junctions pairs) i (0, 0) lt)).0)

-- what follows of a value follows of one that may be there
pub some_more : {X : Type 0} (P Q : X → Type 0) → ((x : X) → P x → Q x) → (o : Option X) → IfSome o P → IfSome o Q
some_more P Q more None h = h
some_more P Q more (Some x) h = more x h

-- ## Positions

-- a number in a list has a position there
position_has : (xs : List ℕ) (x : ℕ) → Contains xs x → (i : ℕ) × (position (nat_eq x) xs ≡ Some i) × (slice_get xs i ≡ Some x)
position_has xs x h =
    let i = position_or_len (nat_eq x) xs in
    let lt : i < length xs = early (nat_eq x) xs x (eq-eqb x x refl) h in
    let found : position (nat_eq x) xs ≡ Some i = ap (λ t. cond t (Some i) None) (lt-ltb i (length xs) lt) in
    (i, found, slice_get-get_or xs i 0 lt ∙ ap Some (sym (eqb-true x (get_or xs i 0) (position-Some (nat_eq x) xs i 0 found).1)))

-- at its position stands the number
pub position_at : (xs : List ℕ) (x i : ℕ) → position (nat_eq x) xs ≡ Some i → slice_get xs i ≡ Some x
position_at xs x i found =
    let some = position-Some (nat_eq x) xs i 0 found in
    slice_get-get_or xs i 0 some.0 ∙ ap Some (sym (eqb-true x (get_or xs i 0) some.1))

-- what stands at a position is in the list
position_member : (xs : List ℕ) (x i : ℕ) → slice_get xs i ≡ Some x → Contains xs x
position_member xs x i at =
    subst (Contains xs) (get_or_from_slice_get xs i x 0 at) (Contains-get_or xs i 0 (slice_get_within xs i x at))

-- at one position stands one number
same_at : (xs : List ℕ) (x y i : ℕ) → slice_get xs i ≡ Some x → slice_get xs i ≡ Some y → x ≡ y
same_at xs x y i one two = sym (get_or_from_slice_get xs i x 0 one) ∙ get_or_from_slice_get xs i y 0 two

-- ## Sets that are gathered

-- empty sets are sound
pub sound_start : (pairs : List (ℕ × ℕ)) (junctions : List ℕ) (n : ℕ) → AreSound pairs junctions (replicate n [])
sound_start pairs junctions n number i h = absurd (true≢false (sym h ∙ past_has (set_of (replicate n []) number) i (subst (λ (xs : List ℕ). length xs ≤ i / 64) (sym (empty number)) (omega arith))))
  where
    empty : (number : ℕ) → set_of (replicate n []) number ≡ []
    empty number =
        ⊎_elim (λ lt. get_or-replicate n number [] [] lt) (λ past. get_or_past (replicate n []) number [] (subst (λ m. m ≤ number) (sym (length-replicate n [])) past)) (cases_lt number n)

-- a set of what stands in the row of a number is put in its place
pub sound_put : (pairs : List (ℕ × ℕ)) (junctions : List ℕ) (rows sets : List (List ℕ)) (number : ℕ) (row gathered : List ℕ) (own : Option ℕ) → AreRows (turned pairs) rows
    → AreSound pairs junctions sets → number < length sets → own ≡ position (nat_eq number) junctions → row ≡ get_or rows number []
    → ((i : ℕ) → has gathered i ≡ true → (own ≡ Some i) ⊎ ((child : ℕ) × Contains row child × (has (set_of sets child) i ≡ true)))
    → AreSound pairs junctions (set sets number gathered)
sound_put pairs junctions rows sets number row gathered own downs sound fits own_is row_is from other i h =
    elim (cases_eq other number) [
      | inl here ↦
          (let marked : has gathered i ≡ true = ap (λ (xs : List ℕ). has xs i) (sym (ap (set_of (set sets number gathered)) here ∙ get_or-set_same sets number gathered [] fits)) ∙ h in
          subst (λ k. (j : ℕ) × (slice_get junctions i ≡ Some j) × Reaches pairs j k) (sym here) (by i (from i marked)))
      | inr apart ↦ sound other i (ap (λ (xs : List ℕ). has xs i) (sym (get_or-set_other sets number other gathered [] apart)) ∙ h)
    ]
  where
    by : (i : ℕ) → (own ≡ Some i) ⊎ ((child : ℕ) × Contains row child × (has (set_of sets child) i ≡ true)) → (j : ℕ) × (slice_get junctions i ≡ Some j) × Reaches pairs j number
    by i (inl is) = (number, position_at junctions number i (sym own_is ∙ is), inl refl)
    by i (inr (child, there, marked)) =
        let found = sound child i marked in
        let pair = unturned-pair pairs child number ((downs number child).0 (subst (λ (r : List ℕ). Contains r child) row_is there)) in
        (found.0, found.1, joined pairs found.0 child number found.2 (inr (Direct child number pair)))

-- ## The closure

module _ (pairs : List (ℕ × ℕ)) (up down : List (List ℕ)) (n : ℕ) (c : Closure) (below : AreBelow n pairs) (no_parent : get_or up 0 [] ≡ [])
    (ups : AreRows pairs up) (downs : AreRows (turned pairs) down) (count : length c.intervals ≡ n)
    (tell : Tell (along_lines c.junctions pairs) c.intervals) (tops : AreTops (along_lines c.junctions pairs) n c.tops)
    (sound : AreSound pairs c.junctions c.sets) (own : HaveOwn c.junctions c.sets) (carried : AreCarried down c.sets) where
  -- the pairs along lines
  abbrev pub lines : List (ℕ × ℕ)
  lines = along_lines c.junctions pairs

  -- a way along lines is a way
  on_lines : (a b : ℕ) → Reaches lines a b → Reaches pairs a b
  on_lines a b r = reaches_more lines pairs (all_along c.junctions pairs) a b r

  -- no pair is from 0
  no_pair : (b : ℕ) → Contains {X = ℕ × ℕ} pairs (0, b) → ⊥
  no_pair b pair = nothing b (subst (λ row. Contains row b) no_parent ((ups 0 b).1 pair))

  -- no way is from 0
  no_way : (a b : ℕ) → a ≡ 0 → Precedes pairs a b → ⊥
  no_way _ _ is (Direct a b pair) = no_pair b (subst (λ a. Contains {X = ℕ × ℕ} pairs (a, b)) is pair)
  no_way _ _ is (Through a m b pair rest) = no_pair m (subst (λ a. Contains {X = ℕ × ℕ} pairs (a, m)) is pair)

  -- what leads to a number does so along lines, or along lines to a junction that leads to it
  pub ways : (a b : ℕ) → 0 < b → Precedes pairs a b → Reaches lines a b ⊎ ((j : ℕ) × Contains c.junctions j × Reaches lines a j × Precedes pairs j b)
  ways _ _ positive (Direct a b pair) = by (list_any (nat_eq a) c.junctions) refl
    where
      by : (t : Bool) → list_any (nat_eq a) c.junctions ≡ t → Reaches lines a b ⊎ ((j : ℕ) × Contains c.junctions j × Reaches lines a j × Precedes pairs j b)
      by true e = inr (a, Contains-from_any eqb-true a c.junctions e, inl refl, Direct a b pair)
      by false e = inl (inr (Direct a b (along c.junctions pairs a b pair positive e)))
  ways _ _ positive (Through a m b pair rest) = by (list_any (nat_eq a) c.junctions) refl (ways m b positive rest)
    where
      by : (t : Bool) → list_any (nat_eq a) c.junctions ≡ t → Reaches lines m b ⊎ ((j : ℕ) × Contains c.junctions j × Reaches lines m j × Precedes pairs j b)
          → Reaches lines a b ⊎ ((j : ℕ) × Contains c.junctions j × Reaches lines a j × Precedes pairs j b)
      by true e next = inr (a, Contains-from_any eqb-true a c.junctions e, inl refl, Through a m b pair rest)
      by false e next =
          ⊎_elim
          (λ between. let step : Reaches lines a m = inr (Direct a m (along c.junctions pairs a m pair between e)) in
          ⊎_elim
          (λ r. inl (joined lines a m b step r))
          (λ past. inr (past.0, past.1, joined lines a m past.0 step past.2, past.3))
          next)
          (λ root. absurd (no_way m b (omega (arith, root)) rest))
          (cases_lt 0 m)

  -- the tops of a line
  same_top : (a b : ℕ) → Precedes lines a b → top_at c.tops a ≡ top_at c.tops b
  same_top _ _ (Direct a b pair) = tops.alike a b pair
  same_top _ _ (Through a m b pair rest) = tops.alike a m pair ∙ same_top m b rest

  -- a way along lines keeps the top
  pub line_top : (a b : ℕ) → Reaches lines a b → top_at c.tops a ≡ top_at c.tops b
  line_top a b (inl is) = ap (top_at c.tops) is
  line_top a b (inr r) = same_top a b r

  -- where a way begins is below n
  leading : (a b : ℕ) → Precedes pairs a b → a < n
  leading a b r = leading-small n pairs a b below r

  -- a junction that leads on is its own top
  junction_top : (j b : ℕ) → Contains c.junctions j → Precedes pairs j b → top_at c.tops j ≡ j
  junction_top j b there r = tops.last j (leading j b r) (λ p pair. none_along c.junctions pairs j p there pair)

  -- the positions of all junctions that lead to a number are in its set
  full : (i a b : ℕ) → has (set_of c.sets a) i ≡ true → Precedes pairs a b → has (set_of c.sets b) i ≡ true
  full i _ _ here (Direct a b pair) = carried b a ((downs b a).1 (turned-pair pairs a b pair)) i here
  full i _ _ here (Through a m b pair rest) = full i m b (carried m a ((downs m a).1 (turned-pair pairs a m pair)) i here) rest

  -- a junction that leads on is at the tops of the lines that lead to it
  pub through : (a j b : ℕ) → Contains c.junctions j → Reaches lines a j → Precedes pairs j b → PassesTo c a b
  through a j b there r on =
      let at = position_has c.junctions j there in
      let top : top_at c.tops a ≡ j = line_top a j r ∙ junction_top j b there on in
      (at.0, ap (λ x. position (nat_eq x) c.junctions) top ∙ at.1, full at.0 j b (own at.0 j at.2) on)

  -- what the line's top leads to is reached
  passes : (a b : ℕ) → a < n → PassesTo c a b → Reaches pairs a b
  passes a b small (i, at, marked) =
      let found = sound b i marked in
      let top : top_at c.tops a ≡ found.0 = same_at c.junctions (top_at c.tops a) found.0 i (position_at c.junctions (top_at c.tops a) i at) found.1 in
      joined pairs a found.0 b (subst (Reaches pairs a) top (on_lines a (top_at c.tops a) (tops.reached a small))) found.2

  -- the closure tells what leads to what
  leads : (a b : ℕ) → a < n → 0 < b → b < n → LeadsTo c a b ↔ Reaches pairs a b
  leads a b small_a positive small_b = (to, from)
    where
      inside : IsInside c.intervals a b ↔ Reaches lines a b
      inside = tell a b (omega (arith, small_a, count)) positive (omega (arith, small_b, count))

      to : LeadsTo c a b → Reaches pairs a b
      to (inl h) = on_lines a b (inside.0 h)
      to (inr h) = passes a b small_a h

      from : Reaches pairs a b → LeadsTo c a b
      from (inl is) = inl (inside.1 (inl is))
      from (inr r) =
          ⊎_elim (λ line. inl (inside.1 line)) (λ past. inr (through a past.0 b past.1 past.2 past.3)) (ways a b positive r)

  -- what reaches a number below n is below n
  small : (s a : ℕ) → a < n → Reaches pairs s a → s < n
  small s a lt (inl is) = subst (λ k. k < n) (sym is) lt
  small s a lt (inr r) = leading s a r

  -- of two numbers on one line one leads to the other
  one_line : (s a b : ℕ) → s < n → 0 < a → a < n → 0 < b → b < n → Reaches lines s a → Reaches lines s b → Meet c a b
  one_line s a b small_s positive_a small_a positive_b small_b one two =
      let in_a = (tell s a (omega (arith, small_s, count)) positive_a (omega (arith, small_a, count))).1 one in
      let in_b = (tell s b (omega (arith, small_s, count)) positive_b (omega (arith, small_b, count))).1 two in
      let low_a = in_a.0 in
      let high_a = in_a.1 in
      let low_b = in_b.0 in
      let high_b = in_b.1 in
      ⊎_elim
      (λ lt. inr (inl (inl (omega (arith, lt), omega (arith, low_b, high_a)))))
      (λ le. inl (inl (le, omega (arith, low_a, high_b))))
      (cases_lt (start_of c.intervals a) (start_of c.intervals b))

  -- a number's line goes on to its top, from where a junction leads on
  onwards : (s a b : ℕ) → Reaches lines s a → PassesTo c s b → PassesTo c a b
  onwards s a b r (i, at, marked) = (i, ap (λ x. position (nat_eq x) c.junctions) (sym (line_top s a r)) ∙ at, marked)

  -- where a number passes to two, they share a junction
  shared : (s a b : ℕ) → PassesTo c s a → PassesTo c s b → ShareJunction c a b
  shared s a b (i, at, marked) (k, at_k, marked_k) =
      let same : i ≡ k = some_same i k (sym at ∙ at_k) in
      (i, marked, subst (λ k. has (set_of c.sets b) k ≡ true) (sym same) marked_k)
    where
      some_same : (x y : ℕ) → Some x ≡ Some y → x ≡ y
      some_same x y e = ap (λ o. unwrap_or o 0) e

  -- the closure tells whether something leads to both
  meet : (a b : ℕ) → 0 < a → a < n → 0 < b → b < n → Meet c a b ↔ ((s : ℕ) × (s < n) × Reaches pairs s a × Reaches pairs s b)
  meet a b positive_a small_a positive_b small_b = (to, from)
    where
      to : Meet c a b → (s : ℕ) × (s < n) × Reaches pairs s a × Reaches pairs s b
      to (inl h) = (a, small_a, inl refl, (leads a b small_a positive_b small_b).0 h)
      to (inr (inl h)) = (b, small_b, (leads b a small_b positive_a small_a).0 h, inl refl)
      to (inr (inr (i, one, two))) =
          let j = sound a i one in
          let k = sound b i two in
          let same : k.0 ≡ j.0 = same_at c.junctions k.0 j.0 i k.1 j.1 in
          (j.0, small j.0 a small_a j.2, j.2, subst (λ x. Reaches pairs x b) same k.2)

      way : (s b : ℕ) → s < n → 0 < b → b < n → Reaches pairs s b → Reaches lines s b ⊎ PassesTo c s b
      way s b small_s positive small_b (inl is) = inl (inl is)
      way s b small_s positive small_b (inr r) = ⊎_elim (λ line. inl line) (λ past. inr (through s past.0 b past.1 past.2 past.3)) (ways s b positive r)

      from : (s : ℕ) × (s < n) × Reaches pairs s a × Reaches pairs s b → Meet c a b
      from (s, lt, one, two) = by (way s a lt positive_a small_a one) (way s b lt positive_b small_b two)
        where
          by : Reaches lines s a ⊎ PassesTo c s a → Reaches lines s b ⊎ PassesTo c s b → Meet c a b
          by (inl r) (inl q) = one_line s a b lt positive_a small_a positive_b small_b r q
          by (inl r) (inr q) = inl (inr (onwards s a b r q))
          by (inr r) (inl q) = inr (inl (inr (onwards s b a q r)))
          by (inr r) (inr q) = inr (inr (shared s a b r q))

  -- the closure tells both
  pub tells : Tells pairs n c
  tells = record { leads = leads; meet = meet }

-- ## Sets within that of a number

-- a set that has what those of the first of a row have, has it of all at the row's end
pub all_within_row : (sets : List (List ℕ)) (row : List ℕ) (number k : ℕ) → length row ≤ k → ((j : ℕ) → j < k → IsWithin (set_of sets (get_or row j 0)) (set_of sets number))
    → (child : ℕ) → Contains row child → IsWithin (set_of sets child) (set_of sets number)
all_within_row sets row number k past within child (j, lt, is) =
    subst (λ x. IsWithin (set_of sets x) (set_of sets number)) (get_or_default row j 0 child lt ∙ is) (within j (omega (arith, lt, past)))
