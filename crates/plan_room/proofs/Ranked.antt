-- The positions by their ranks, or as they are numbered in a chain, are a sequence that keeps the order.
use Rattle.std.proofs.Common.{◌≡◌, ℕ, zero, suc, ◌+◌, ◌-◌, ◌≤◌, ◌<◌, inl, inr, Bool, true, false, cond, eqb, ltb, List, [], ◌∷◌, ◌++◌, Vec, length, get_or, set, replicate, sym, refl, ap, ap₂, ◌∙◌, subst, append_assoc, arith, get_or-set_same, get_or-set_other}
use Rattle.std.proofs.lemmas.Bool.{both_ways, cases_lt, cases_eq, eq-eqb, ne_eqb, eqb-true, lt-ltb, le-ltb, false_from_ne_true}
use Rattle.std.proofs.lemmas.List.{append-nil, get_or-append_right, get_or-map, get_or-replicate, get_or_append_left, get_or_push, length-append, length-map, length-replicate, length-set, length_push, map-set}
use Rattle.std.proofs.lemmas.Option.{slice_get_within, get_or_from_slice_get}
use Rattle.htn_model.specs.Problem.{Order, IsClosed, IsSquare, is_before}
use Rattle.htn_model.specs.PlanFile.{IsIn, IsWithoutRepeats}
use Rattle.htn_model.proofs.Ascending.{in_at, in_left, in_right, in_split}
use Rattle.htn_model.proofs.Rearranged.{distinct_join}
use Rattle.htn_model.proofs.Splices.{square_past_left, square_past_right}
use Rattle.htn_order.specs.Counts.{count_below}
use Rattle.plan_room.specs.Placing.{AreAhead, IsAhead, IsSequence}
use Rattle.plan_room.specs.Ranks.{AreLevels, AreStarts, ahead_of, rank, level, levels, lists_of}

-- ## Ranks

-- what a flag counts
abbrev flag : Bool → ℕ
flag b = cond b 1 0

-- a flag counts one at most
one_small : (b : Bool) → cond b 1 0 ≤ 1
one_small true = omega arith
one_small false = omega arith

-- a rank is no greater than the number of positions that are counted
pub rank_low : (order : Order) (a n : ℕ) → rank order a n ≤ n
rank_low order a zero = omega arith
rank_low order a (suc n) = let more = rank_low order a n in let here = one_small (is_before order n a) in omega arith

-- a flag that is down counts nothing
none_at : (b : Bool) → b ≡ false → ◌≡◌ {A = ℕ} (cond b 1 0) 0
none_at true e = absurd cc
none_at false e = refl

-- a flag that is up counts one
one_at : (b : Bool) → b ≡ true → ◌≡◌ {A = ℕ} (cond b 1 0) 1
one_at true e = refl
one_at false e = absurd cc

-- a flag that implies another counts no more
one_le : (b c : Bool) → (b ≡ true → c ≡ true) → cond b 1 0 ≤ cond c 1 0
one_le true c h = subst (λ d. 1 ≤ cond d 1 0) (sym (h refl)) (omega arith)
one_le false c h = omega arith

-- what has no more before it has no greater rank
rank_le : (order : Order) (a b n : ℕ) → ((c : ℕ) → is_before order c a ≡ true → is_before order c b ≡ true) → rank order a n ≤ rank order b n
rank_le order a b zero all = omega arith
rank_le order a b (suc n) all = let more = rank_le order a b n all in let here = one_le (is_before order n a) (is_before order n b) (all n) in omega arith

-- and a smaller one, where the other has one more
rank_less : (order : Order) (a b n k : ℕ) → ((c : ℕ) → is_before order c a ≡ true → is_before order c b ≡ true) → k < n → is_before order k a ≡ false → is_before order k b ≡ true
    → rank order a n < rank order b n
rank_less order a b zero k all low out into = absurd (omega arith)
rank_less order a b (suc n) k all low out into = elim (cases_eq k n) [
  | inl same ↦ (let more = rank_le order a b n all in
      let none = none_at (is_before order n a) (subst (λ j. is_before order j a ≡ false) same out) in
      let one = one_at (is_before order n b) (subst (λ j. is_before order j b ≡ true) same into) in omega arith)
  | inr other ↦ (let more = rank_less order a b n k all (omega arith) out into in let here = one_le (is_before order n a) (is_before order n b) (all n) in omega arith)
]

module _ (order : Order) (closed : IsClosed order) (square : IsSquare (length order) order) where
  -- how many positions there are
  abbrev n : ℕ
  n = length order

  -- what is before another is a position
  inside : (a b : ℕ) → is_before order a b ≡ true → a < n
  inside a b e = elim (cases_lt a n) [ inl low ↦ low | inr past ↦ absurd (both_ways (is_before order a b) (square_past_left n order a b square past) e) ]

  -- and so is the other
  inside_right : (a b : ℕ) → is_before order a b ≡ true → b < n
  inside_right a b e = elim (cases_lt b n) [ inl low ↦ low | inr past ↦ absurd (both_ways (is_before order a b) (square_past_right n order a b square past) e) ]

  -- what is before another has a smaller rank
  ranked : (a b : ℕ) → is_before order a b ≡ true → rank order a n < rank order b n
  ranked a b e = rank_less order a b n a (λ c h. closed.transitive c a b h e) (inside a b e) (closed.irreflexive a) e

  -- ranks are below the number of positions
  pub rank_small : (a : ℕ) → a < n → rank order a n < n
  rank_small a low =
      let up = rank_less_self n a low in up
    where
      -- the position itself isn't counted
      rank_less_self : (k a : ℕ) → a < k → rank order a k < k
      rank_less_self zero a l = absurd (omega arith)
      rank_less_self (suc k) a l = elim (cases_eq a k) [
        | inl same ↦ (let none = none_at (is_before order k a) (subst (λ j. is_before order j a ≡ false) same (closed.irreflexive a)) in
            let more = rank_low order a k in omega arith)
        | inr other ↦ (let more = rank_less_self k a (omega arith) in let here = one_small (is_before order k a) in omega arith)
      ]

-- ## Counts

-- where one test implies another, no more numbers pass
count_le : (f g : ℕ → Bool) (n : ℕ) → ((k : ℕ) → k < n → f k ≡ true → g k ≡ true) → count_below f n ≤ count_below g n
count_le f g zero all = omega arith
count_le f g (suc n) all = let more = count_le f g n (λ k low. all k (omega arith)) in let here = one_le (f n) (g n) (all n (omega arith)) in omega arith

-- a flag that counts is up
up_at : (b : Bool) → 1 ≤ cond b 1 0 → b ≡ true
up_at true h = refl
up_at false h = absurd (omega arith)

-- and where as many pass, the same do
count_same : (f g : ℕ → Bool) (n : ℕ) → ((k : ℕ) → k < n → f k ≡ true → g k ≡ true) → count_below f n ≡ count_below g n → (k : ℕ) → k < n → g k ≡ true → f k ≡ true
count_same f g zero all same k low passes = absurd (omega arith)
count_same f g (suc n) all same k low passes =
    let le = count_le f g n (λ j l. all j (omega arith)) in
    let here = one_le (f n) (g n) (all n (omega arith)) in
    elim (cases_eq k n) [
      | inl last ↦ (let one = one_at (g n) (subst (λ j. g j ≡ true) last passes) in
          subst (λ j. f j ≡ true) (sym last) (up_at (f n) (omega arith)))
      | inr other ↦ count_same f g n (λ j l. all j (omega arith)) (omega arith) k (omega arith) passes
    ]

-- numbers that pass one test or the other, but not both, are counted with each
count_sum : (f g h : ℕ → Bool) (n : ℕ) → ((k : ℕ) → cond (f k) 1 0 + cond (g k) 1 0 ≡ cond (h k) 1 0) → count_below f n + count_below g n ≡ count_below h n
count_sum f g h zero all = omega arith
count_sum f g h (suc n) all = let more = count_sum f g h n all in let here = all n in omega arith

-- where no number passes, the count is 0
count_none : (f : ℕ → Bool) (n : ℕ) → ((k : ℕ) → f k ≡ false) → count_below f n ≡ 0
count_none f zero all = refl
count_none f (suc n) all = let more = count_none f n all in let here = none_at (f n) (all n) in omega arith

-- ## Levels

module _ (rank_of : ℕ → ℕ) where
  -- what is in a list of one, if there is one
  in_one : (b : Bool) (x y : ℕ) → IsIn x (cond b (y ∷ []) []) → (x ≡ y) × (b ≡ true)
  in_one true x y (inl same) = (same, refl)
  in_one true x y (inr none) = absurd none
  in_one false x y i = absurd i

  -- a member of a level is a position of that rank
  in_level : (r k x : ℕ) → IsIn x (level rank_of r k) → (x < k) × (rank_of x ≡ r)
  in_level r zero x i = absurd i
  in_level r (suc k) x i = elim (in_split x (level rank_of r k) (cond (eqb (rank_of k) r) (k ∷ []) []) i) [
    | inl before ↦ (let (low, is) = in_level r k x before in ((let l = low in omega arith), is))
    | inr here ↦ (let (same, is) = in_one (eqb (rank_of k) r) x k here in ((let e = same in omega arith), ap rank_of same ∙ eqb-true (rank_of k) r is))
  ]

  -- each position of the rank is in it
  level_in : (r k x : ℕ) → x < k → rank_of x ≡ r → IsIn x (level rank_of r k)
  level_in r zero x low is = absurd (omega arith)
  level_in r (suc k) x low is = elim (cases_eq x k) [
    | inl same ↦ in_right x (level rank_of r k) (cond (eqb (rank_of k) r) (k ∷ []) [])
        (subst (λ b. IsIn x (cond b (k ∷ []) [])) (sym (eq-eqb (rank_of k) r (ap rank_of (sym same) ∙ is))) (inl same))
    | inr other ↦ in_left x (level rank_of r k) (cond (eqb (rank_of k) r) (k ∷ []) []) (level_in r k x (omega arith) is)
  ]

  -- nothing stands twice in a list of one
  distinct_one : (b : Bool) (y : ℕ) → IsWithoutRepeats (cond b (y ∷ []) [])
  distinct_one true y = ((λ i. i), tt)
  distinct_one false y = tt

  -- nor in a level
  distinct_level : (r k : ℕ) → IsWithoutRepeats (level rank_of r k)
  distinct_level r zero = tt
  distinct_level r (suc k) = distinct_join (level rank_of r k) (cond (eqb (rank_of k) r) (k ∷ []) []) (distinct_level r k) (distinct_one (eqb (rank_of k) r) k)
      (λ x i j. let low = (in_level r k x i).0 in let same = (in_one (eqb (rank_of k) r) x k j).0 in absurd (omega arith))

  -- a member of the levels is a position of a smaller rank
  in_levels : (n r x : ℕ) → IsIn x (levels rank_of n r) → (x < n) × (rank_of x < r)
  in_levels n zero x i = absurd i
  in_levels n (suc r) x i = elim (in_split x (levels rank_of n r) (level rank_of r n) i) [
    | inl before ↦ (let (low, less) = in_levels n r x before in (low, (let l = less in omega arith)))
    | inr here ↦ (let (low, is) = in_level r n x here in (low, (let e = is in omega arith)))
  ]

  -- each position of a smaller rank is in them
  levels_in : (n r x : ℕ) → x < n → rank_of x < r → IsIn x (levels rank_of n r)
  levels_in n zero x low less = absurd (omega arith)
  levels_in n (suc r) x low less = elim (cases_eq (rank_of x) r) [
    | inl same ↦ in_right x (levels rank_of n r) (level rank_of r n) (level_in r n x low same)
    | inr other ↦ in_left x (levels rank_of n r) (level rank_of r n) (levels_in n r x low (omega arith))
  ]

  -- nothing stands twice in the levels
  distinct_levels : (n r : ℕ) → IsWithoutRepeats (levels rank_of n r)
  distinct_levels n zero = tt
  distinct_levels n (suc r) = distinct_join (levels rank_of n r) (level rank_of r n) (distinct_levels n r) (distinct_level r n)
      (λ x i j. let less = (in_levels n r x i).1 in let same = (in_level r n x j).1 in absurd (omega arith))

  -- the ranks don't fall
  IsRising : List ℕ → Type 0
  IsRising [] = Unit {0}
  IsRising (x ∷ xs) = ((y : ℕ) → IsIn y xs → rank_of x ≤ rank_of y) × IsRising xs

  -- ranks rise along two lists, the second no lower than the first
  rising_join : (xs ys : List ℕ) → IsRising xs → IsRising ys → ((x y : ℕ) → IsIn x xs → IsIn y ys → rank_of x ≤ rank_of y) → IsRising (xs ++ ys)
  unfolding IsRising
  rising_join [] ys r s between = s
  rising_join (x ∷ xs) ys r s between = (
    (λ y i. elim (in_split y xs ys i) [ inl before ↦ r.0 y before | inr after ↦ between x y (inl refl) after ]),
    rising_join xs ys r.1 s (λ z y i j. between z y (inr i) j),
  )

  -- and along a list of one rank
  rising_same : (r : ℕ) (xs : List ℕ) → ((x : ℕ) → IsIn x xs → rank_of x ≡ r) → IsRising xs
  unfolding IsRising
  rising_same r [] all = tt
  rising_same r (x ∷ xs) all = ((λ y i. let e = all x (inl refl) in let f = all y (inr i) in omega arith), rising_same r xs (λ y i. all y (inr i)))

  -- so they rise along the levels
  rising_levels : (n r : ℕ) → IsRising (levels rank_of n r)
  unfolding IsRising
  rising_levels n zero = tt
  rising_levels n (suc r) = rising_join (levels rank_of n r) (level rank_of r n) (rising_levels n r) (rising_same r (level rank_of r n) (λ x i. (in_level r n x i).1))
      (λ x y i j. let less = (in_levels n r x i).1 in let same = (in_level r n y j).1 in omega arith)

  -- the member at a position is in the list
  member : (xs : List ℕ) (i : ℕ) → i < length xs → IsIn (get_or xs i 0) xs
  member [] i low = absurd (omega arith)
  member (x ∷ xs) zero low = inl refl
  member (x ∷ xs) (suc i) low = inr (member xs i (omega arith))

  -- ranks rise from position to position
  rising_at : (xs : List ℕ) (i j : ℕ) → IsRising xs → i ≤ j → j < length xs → rank_of (get_or xs i 0) ≤ rank_of (get_or xs j 0)
  unfolding IsRising
  rising_at [] i j r le low = absurd (omega arith)
  rising_at (x ∷ xs) zero zero r le low = omega arith
  rising_at (x ∷ xs) zero (suc j) r le low = r.0 (get_or xs j 0) (member xs j (omega arith))
  rising_at (x ∷ xs) (suc i) zero r le low = absurd (omega arith)
  rising_at (x ∷ xs) (suc i) (suc j) r le low = rising_at xs i j r.1 (omega arith) (omega arith)

  -- where nothing stands twice, a member has one position
  once_at : (xs : List ℕ) (i j : ℕ) → IsWithoutRepeats xs → i < length xs → j < length xs → get_or xs i 0 ≡ get_or xs j 0 → i ≡ j
  once_at [] i j d li lj e = absurd (omega arith)
  once_at (x ∷ xs) zero zero d li lj e = refl
  once_at (x ∷ xs) zero (suc j) d li lj e = absurd (d.0 (subst (λ y. IsIn y xs) (sym e) (member xs j (omega arith))))
  once_at (x ∷ xs) (suc i) zero d li lj e = absurd (d.0 (subst (λ y. IsIn y xs) e (member xs i (omega arith))))
  once_at (x ∷ xs) (suc i) (suc j) d li lj e = ap suc (once_at xs i j d.1 (omega arith) (omega arith) e)

  -- the levels are a sequence that keeps the order
  pub levels_sequence : (order : Order) → IsClosed order → IsSquare (length order) order → ((a : ℕ) → a < length order → rank_of a ≡ rank order a (length order))
      → IsSequence order (levels rank_of (length order) (length order))
  levels_sequence order closed square is = record {
    within = λ i low. (in_levels (length order) (length order) _ (member (levels rank_of (length order) (length order)) i low)).0;
    listed = λ a low. (
        let there = levels_in (length order) (length order) a low (let e = is a low in let f = rank_small order closed square a low in omega arith) in
        let (i, at) = in_at a (levels rank_of (length order) (length order)) there in
        (i, slice_get_within (levels rank_of (length order) (length order)) i a at, get_or_from_slice_get (levels rank_of (length order) (length order)) i a 0 at));
    once = λ i j li lj e. once_at (levels rank_of (length order) (length order)) i j (distinct_levels (length order) (length order)) li lj e;
    ordered = λ i j li lj before. (
        let a = get_or (levels rank_of (length order) (length order)) i 0 in
        let b = get_or (levels rank_of (length order) (length order)) j 0 in
        elim (cases_lt i j) [
          | inl less ↦ less
          | inr more ↦ (let up = rising_at (levels rank_of (length order) (length order)) j i (rising_levels (length order) (length order)) more li in
              let down = ranked order closed square a b before in
              let e = is a (inside order closed square a b before) in let f = is b (inside_right order closed square a b before) in absurd (omega arith))
        ]);
  }

  -- ## Lists of the positions of each rank

  -- with no position looked at, all lists are empty
  pub levels_none : (n : ℕ) → AreLevels rank_of n 0 (replicate n [])
  levels_none n = record { size = length-replicate n []; each = λ r low. get_or-replicate n r [] [] low }

  -- a position comes at the end of the list of its rank
  level_here : (r k : ℕ) → rank_of k ≡ r → level rank_of r (k + 1) ≡ level rank_of r k ++ k ∷ []
  level_here r k is =
      ap (level rank_of r) (let e : k + 1 ≡ suc k = omega arith in e) ∙ ap (λ b. level rank_of r k ++ cond b (k ∷ []) []) (eq-eqb (rank_of k) r is)

  -- and in no other
  level_other : (r k : ℕ) → (rank_of k ≡ r → ⊥) → level rank_of r (k + 1) ≡ level rank_of r k
  level_other r k other =
      ap (level rank_of r) (let e : k + 1 ≡ suc k = omega arith in e) ∙ ap (λ b. level rank_of r k ++ cond b (k ∷ []) []) (ne_eqb (rank_of k) r other)
      ∙ append-nil (level rank_of r k)

  -- a list that is kept has the positions of its rank
  pub level_at : {A : Type 0} (lists : List (Vec ℕ A)) (n k r : ℕ) (list : Vec ℕ A) → AreLevels rank_of n k (lists_of lists) → r < n → list ≡ get_or lists r list
      → list.items ≡ level rank_of r k
  level_at lists n k r list so low is =
      let many = length-map lists (λ v. v.items) in
      let size = so.size in ap (λ v. v.items) is ∙ sym (get_or-map (λ v. v.items) lists r list [] (omega arith)) ∙ so.each r low

  -- with one position more in the list of its rank
  pub level_pushed : {A : Type 0} (lists : List (Vec ℕ A)) (n k : ℕ) (list new : Vec ℕ A) → AreLevels rank_of n k (lists_of lists) → rank_of k < n
      → list ≡ get_or lists (rank_of k) list → new.items ≡ list.items ++ k ∷ [] → AreLevels rank_of n (k + 1) (lists_of (set lists (rank_of k) new))
  level_pushed lists n k list new so low is more =
      let r = rank_of k in
      let size = so.size in
      let within : r < length (lists_of lists) = omega arith in
      let items : new.items ≡ level rank_of r (k + 1) = more ∙ ap (λ xs. xs ++ k ∷ []) (level_at lists n k r list so low is) ∙ sym (level_here r k refl) in
      let same : lists_of (set lists r new) ≡ set (lists_of lists) r new.items = map-set (λ v. v.items) lists r new in
      record {
        size = ap length same ∙ length-set (lists_of lists) r new.items ∙ so.size;
        each = λ q less. ap (λ ls. get_or ls q []) same ∙ (elim (cases_eq q r) [
          | inl here ↦ ap (λ p. get_or (set (lists_of lists) r new.items) p []) here ∙ get_or-set_same (lists_of lists) r new.items [] within ∙ items
              ∙ ap (λ p. level rank_of p (k + 1)) (sym here)
          | inr other ↦ get_or-set_other (lists_of lists) r q new.items [] other ∙ so.each q less ∙ sym (level_other q k (λ e. other (sym e)))
        ]);
      }

  -- with the positions of one rank more
  pub levels_more : (n r : ℕ) → levels rank_of n (r + 1) ≡ levels rank_of n r ++ level rank_of r n
  levels_more n r = ap (levels rank_of n) (let e : r + 1 ≡ suc r = omega arith in e)

  -- with one start more
  pub starts_more : (n k value : ℕ) (starts new : List ℕ) → AreStarts rank_of n k starts → new ≡ starts ++ value ∷ [] → value ≡ length (levels rank_of n k)
      → AreStarts rank_of n (k + 1) new
  starts_more n k value starts new so is here = record {
    size = ap length is ∙ length_push starts value ∙ ap (λ m. m + 1) so.size;
    each = λ r low. ap (λ xs. get_or xs r 0) is ∙ (elim (cases_eq r k) [
      | inl last ↦ get_or_push starts value 0 r (so.size ∙ sym last) ∙ here ∙ ap (λ q. length (levels rank_of n q)) (sym last)
      | inr other ↦ get_or_append_left starts (value ∷ []) 0 r (let s = so.size in omega arith) ∙ so.each r (omega arith)
    ]);
  }

  -- no starts are known at first
  pub starts_none : (n : ℕ) (starts : List ℕ) → length starts ≡ 0 → AreStarts rank_of n 0 starts
  starts_none n starts none = record { size = none; each = λ r low. absurd (omega arith) }

  -- ## Where those before a position are

  -- a list of one has as many members as its flag counts
  one_length : (b : Bool) (x : ℕ) → length (cond b (x ∷ []) []) ≡ cond b 1 0
  one_length true x = refl
  one_length false x = refl

  -- a level has as many members as positions have the rank
  level_length : (r n : ℕ) → length (level rank_of r n) ≡ count_below (λ a. eqb (rank_of a) r) n
  level_length r zero = refl
  level_length r (suc n) =
      length-append (level rank_of r n) (cond (eqb (rank_of n) r) (n ∷ []) []) ∙ ap₂ (λ x y. x + y) (level_length r n) (one_length (eqb (rank_of n) r) n)

  -- a rank is below another or equal to it where it is below the next
  below_or_at : (x r : ℕ) → cond (ltb x r) 1 0 + cond (eqb x r) 1 0 ≡ cond (ltb x (suc r)) 1 0
  below_or_at x r = elim (cases_lt x r) [
    | inl less ↦ ap₂ (λ p q. flag p + flag q) (lt-ltb x r less) (ne_eqb x r (λ e. omega arith)) ∙ sym (ap flag (lt-ltb x (suc r) (omega arith)))
    | inr more ↦ elim (cases_eq x r) [
      | inl at ↦ ap₂ (λ p q. flag p + flag q) (le-ltb x r more) (eq-eqb x r at) ∙ sym (ap flag (lt-ltb x (suc r) (omega arith)))
      | inr above ↦ ap₂ (λ p q. flag p + flag q) (le-ltb x r more) (ne_eqb x r above) ∙ sym (ap flag (le-ltb x (suc r) (omega arith)))
    ]
  ]

  -- the levels have as many members as positions have a smaller rank
  levels_length : (n r : ℕ) → length (levels rank_of n r) ≡ count_below (λ a. ltb (rank_of a) r) n
  levels_length n zero = sym (count_none (λ a. ltb (rank_of a) 0) n (λ k. le-ltb (rank_of k) 0 (omega arith)))
  levels_length n (suc r) =
      length-append (levels rank_of n r) (level rank_of r n) ∙ ap₂ (λ x y. x + y) (levels_length n r) (level_length r n)
      ∙ count_sum (λ a. ltb (rank_of a) r) (λ a. eqb (rank_of a) r) (λ a. ltb (rank_of a) (suc r)) n (λ k. below_or_at (rank_of k) r)

  -- all levels are those below a rank and then some of that rank or a greater one
  levels_split : (n r d : ℕ) → (rest : List ℕ) × (levels rank_of n (r + d) ≡ levels rank_of n r ++ rest) × ((x : ℕ) → IsIn x rest → r ≤ rank_of x)
  levels_split n r zero = ([], ap (levels rank_of n) (let e : r + 0 ≡ r = omega arith in e) ∙ sym (append-nil (levels rank_of n r)), λ x i. absurd i)
  levels_split n r (suc d) =
      let (rest, is, above) = levels_split n r d in (
        rest ++ level rank_of (r + d) n,
        ap (levels rank_of n) (let e : r + suc d ≡ suc (r + d) = omega arith in e) ∙ ap (λ xs. xs ++ level rank_of (r + d) n) is
            ∙ append_assoc (levels rank_of n r) rest (level rank_of (r + d) n),
        λ x i. elim (in_split x rest (level rank_of (r + d) n) i) [
          | inl before ↦ above x before
          | inr here ↦ (let e = (in_level (r + d) n x here).1 in omega arith)
        ],
      )

  module _ (order : Order) (closed : IsClosed order) (square : IsSquare (length order) order) (is : (a : ℕ) → a < length order → rank_of a ≡ rank order a (length order))
      (a : ℕ) (low : a < length order) where
    -- the positions by their ranks
    abbrev sequence : List ℕ
    sequence = levels rank_of (length order) (length order)

    -- those of a smaller rank than the position's
    abbrev below : List ℕ
    below = levels rank_of (length order) (rank_of a)

    -- its rank is below the number of positions
    small : rank_of a < length order
    small = let e = is a low in let f = rank_small order closed square a low in omega arith

    -- what is before the position has a smaller rank
    before_below : (b : ℕ) → is_before order b a ≡ true → (b < length order) × (rank_of b < rank_of a)
    before_below b e =
        let inside_b = inside order closed square b a e in
        (inside_b, (let up = ranked order closed square b a e in let x = is a low in let y = is b inside_b in omega arith))

    -- the sequence is that list and then others
    parted : (rest : List ℕ) × (sequence ≡ below ++ rest) × ((x : ℕ) → IsIn x rest → rank_of a ≤ rank_of x)
    parted =
        let (rest, split, above) = levels_split (length order) (rank_of a) (length order - rank_of a) in
        (rest, ap (levels rank_of (length order)) (let s = small in let e : length order ≡ rank_of a + (length order - rank_of a) = omega arith in e) ∙ split, above)

    -- a place in front has a smaller rank
    front : (i : ℕ) → i < length below → rank_of (get_or sequence i 0) < rank_of a
    front i l =
        let (rest, split, above) = parted in
        subst (λ x. rank_of x < rank_of a) (sym (ap (λ xs. get_or xs i 0) split ∙ get_or_append_left below rest 0 i l))
        (in_levels (length order) (rank_of a) (get_or below i 0) (member below i l)).1

    -- and one further on has none
    back : (i : ℕ) → length below ≤ i → i < length sequence → rank_of a ≤ rank_of (get_or sequence i 0)
    back i more l =
        let (rest, split, above) = parted in
        let long = ap length split ∙ length-append below rest in
        subst (λ x. rank_of a ≤ rank_of x) (sym (ap (λ xs. get_or xs i 0) split ∙ get_or-append_right below rest (length below) i 0 refl more))
        (above (get_or rest (i - length below) 0) (member rest (i - length below) (omega arith)))

    -- where as many have a smaller rank as are before the position, they are
    all_before : rank_of a ≡ length below → (i : ℕ) → i < length below → is_before order (get_or sequence i 0) a ≡ true
    all_before same i l =
        let split = parted.1 in
        let long = ap length split ∙ length-append below parted.0 in
        let inside_i : get_or sequence i 0 < length order = (in_levels (length order) (length order) (get_or sequence i 0) (member sequence i (omega arith))).0 in
        count_same (λ b. is_before order b a) (λ b. ltb (rank_of b) (rank_of a)) (length order)
        (λ b less e. lt-ltb (rank_of b) (rank_of a) (before_below b e).1)
        (sym (is a low) ∙ same ∙ levels_length (length order) (rank_of a))
        (get_or sequence i 0) inside_i (lt-ltb (rank_of (get_or sequence i 0)) (rank_of a) (front i l))

    -- so the places in front are those ahead of it
    pub levels_ahead : (start : ℕ) → start ≡ length below → IsAhead order sequence a (ahead_of (rank_of a) start).0 (ahead_of (rank_of a) start).1
    levels_ahead start at = by (eqb (rank_of a) start) refl
      where
        own : (i : ℕ) → i < length sequence → get_or sequence i 0 ≡ a → start ≤ i
        own i l e = elim (cases_lt i start) [
          | inl less ↦ absurd (let f = front i (omega arith) in let g : rank_of (get_or sequence i 0) ≡ rank_of a = ap rank_of e in omega arith)
          | inr more ↦ more
        ]

        none : (i : ℕ) → start ≤ i → i < length sequence → is_before order (get_or sequence i 0) a ≡ false
        none i more l = false_from_ne_true (is_before order (get_or sequence i 0) a)
            (λ e. let f = (before_below (get_or sequence i 0) e).1 in let g = back i (omega arith) l in absurd (omega arith))

        by : (b : Bool) → eqb (rank_of a) start ≡ b → IsAhead order sequence a (cond b start 0) start
        by true same = record { low = omega arith; own = own; all = λ i l. all_before (eqb-true (rank_of a) start same ∙ at) i (omega arith); none = none }
        by false other = record { low = omega arith; own = own; all = λ i l. absurd (omega arith); none = none }

-- with the ranks as they are counted, and where each rank starts, the pairs tell what is ahead of each position
pub ranked_ahead : (order : Order) → IsClosed order → IsSquare (length order) order → (xs ys zs sequence : List ℕ) (ahead : List (ℕ × ℕ))
    → ((a : ℕ) → a < length order → get_or xs a 0 ≡ rank order a (length order)) → length xs ≡ length order → ys ≡ xs
    → sequence ≡ levels (λ a. get_or xs a 0) (length xs) (length xs) → AreStarts (λ a. get_or xs a 0) (length xs) (length xs) zs → length ahead ≡ length ys
    → ((a : ℕ) → a < length ys → get_or ahead a (0, 0) ≡ ahead_of (get_or ys a 0) (get_or zs (get_or ys a 0) 0)) → AreAhead order sequence ahead
ranked_ahead order closed square xs ys zs sequence ahead counted long same is starts size each = record {
  size = size ∙ ap length same ∙ long;
  each = λ a low.
      let r = get_or xs a 0 in
      let many = ap length same in
      let here : r ≡ rank order a (length order) = counted a low in
      let small = rank_small order closed square a low in
      let begins : get_or zs r 0 ≡ length (levels (λ b. get_or xs b 0) (length order) r) = starts.each r (omega arith) ∙ ap (λ n. length (levels (λ b. get_or xs b 0) n r)) long in
      let pair : get_or ahead a (0, 0) ≡ ahead_of r (get_or zs r 0) = each a (omega arith) ∙ ap (λ ts. ahead_of (get_or ts a 0) (get_or zs (get_or ts a 0) 0)) same in
      let whole : sequence ≡ levels (λ b. get_or xs b 0) (length order) (length order) = is ∙ ap (λ n. levels (λ b. get_or xs b 0) n n) long in
      subst (λ p. IsAhead order sequence a p.0 p.1) (sym pair)
      (subst (λ s. IsAhead order s a (ahead_of r (get_or zs r 0)).0 (ahead_of r (get_or zs r 0)).1) (sym whole)
      (levels_ahead (λ b. get_or xs b 0) order closed square counted a low (get_or zs r 0) begins));
}

-- ## Pairs for positions

-- pairs that a function gives, with one more
pub pair_more : (f : ℕ → ℕ × ℕ) (n : ℕ) (value : ℕ × ℕ) (pairs new : List (ℕ × ℕ)) → length pairs ≡ n → ((a : ℕ) → a < n → get_or pairs a (0, 0) ≡ f a) → new ≡ pairs ++ value ∷ []
    → value ≡ f n → (length new ≡ n + 1) × ((a : ℕ) → a < n + 1 → get_or new a (0, 0) ≡ f a)
pair_more f n value pairs new size each is here = (
  ap length is ∙ length_push pairs value ∙ ap (λ m. m + 1) size,
  λ a low. ap (λ xs. get_or xs a (0, 0)) is ∙ (elim (cases_eq a n) [
    | inl last ↦ get_or_push pairs value (0, 0) a (size ∙ sym last) ∙ here ∙ ap f (sym last)
    | inr other ↦ get_or_append_left pairs (value ∷ []) (0, 0) a (omega arith) ∙ each a (omega arith)
  ]),
)

-- ## A chain

module _ (order : Order) (closed : IsClosed order) (next : (a : ℕ) → suc a < length order → is_before order a (suc a) ≡ true) where
  -- each is before all later ones
  onward : (a k : ℕ) → suc (a + k) < length order → is_before order a (suc (a + k)) ≡ true
  onward a zero low = subst (λ b. is_before order a b ≡ true) (let e : suc a ≡ suc (a + 0) = omega arith in e) (next a (omega arith))
  onward a (suc k) low = closed.transitive a (suc (a + k)) (suc (a + suc k)) (onward a k (omega arith))
      (subst (λ b. is_before order (suc (a + k)) b ≡ true) (let e : suc (suc (a + k)) ≡ suc (a + suc k) = omega arith in e) (next (suc (a + k)) (omega arith)))

  -- so a position is before each greater one
  forth : (i j : ℕ) → i < j → j < length order → is_before order i j ≡ true
  forth i j less low = subst (λ k. is_before order i k ≡ true) (let k : suc (i + (j - suc i)) ≡ j = omega arith in k) (onward i (j - suc i) (omega arith))

  -- and before no other
  never_back : (i j : ℕ) → i < length order → j ≤ i → is_before order i j ≡ true → ⊥
  never_back i j low le before = elim (cases_eq j i) [
    | inl same ↦ both_ways (is_before order i i) (closed.irreflexive i) (subst (λ b. is_before order i b ≡ true) same before)
    | inr other ↦ both_ways (is_before order i i) (closed.irreflexive i) (closed.transitive i j i before (forth j i (omega arith) low))
  ]

  module _ (xs : List ℕ) (size : length xs ≡ length order) (each : (i : ℕ) → i < length order → get_or xs i 0 ≡ i) where
    -- in a chain the positions as they are numbered are a sequence
    pub numbered_sequence : IsSequence order xs
    numbered_sequence = record {
      within = λ i low. (let e = each i (omega arith) in omega arith);
      listed = λ a low. (a, (let e = size in omega arith), each a low);
      once = λ i j li lj e. (let f = each i (omega arith) in let g = each j (omega arith) in omega arith);
      ordered = λ i j li lj before. elim (cases_lt i j) [
        | inl less ↦ less
        | inr more ↦ absurd (never_back i j (omega arith) more (subst (λ b. is_before order i b ≡ true) (each j (omega arith)) (subst (λ a. is_before order a (get_or xs j 0) ≡ true) (each i (omega arith)) before)))
      ];
    }

    -- with all those ahead of each that come before it
    pub numbered_ahead : (a : ℕ) → a < length order → IsAhead order xs a a a
    numbered_ahead a low = record {
      low = omega arith;
      own = λ i l e. (let f = each i (omega arith) in omega arith);
      all = λ i l. subst (λ b. is_before order b a ≡ true) (sym (each i (omega arith))) (forth i a l low);
      none = λ i more l. subst (λ b. is_before order b a ≡ false) (sym (each i (omega arith)))
          (false_from_ne_true (is_before order i a) (λ e. never_back i a (omega arith) more e));
    }
