-- How many objects of an ascending list all relations allow: an equality leaves one at most, and each negated one takes
-- off one at most.
use Rattle.std.proofs.Common.{◌≡◌, ℕ, Bool, true, false, cond, not, ◌||◌, ◌&&◌, eqb, List, [], ◌∷◌, length, take, get_or, ◌+◌, ◌<◌, refl, sym, ap, subst, ◌∙◌, arith, suc, zero}
use Rattle.std.proofs.Math.Bool.{and-true}
use Rattle.std.specs.Bool.{beq}
use Rattle.std.specs.Cmp.{unsigned_ties}
use Rattle.std.specs.List.{All, filter, list_any}
use Rattle.std.specs.List.Sorted.{IsStrictlySortedBy}
use Rattle.std.specs.Ordering.{is_eq, nat_cmp}
use Rattle.std.specs.declared.cmp.Ordering.TheVariants.{Less}
use Rattle.std.proofs.lemmas.Bool.Decides.{nat_tests}
use Rattle.std.proofs.lemmas.List.{nil_from_length, take_more}
use Rattle.std.proofs.lemmas.List.Elements.{filter_agree}
use Rattle.std.proofs.lemmas.List.Folds.{list_all-append, list_any_none}
use Rattle.std.proofs.lemmas.Map.Keys.{sorted_tail}
use Rattle.std.proofs.lemmas.Map.Views.{All-after_first}
use Rattle.htn_ground.specs.declared.relation.Relation.{Relation}
use Rattle.htn_ground.specs.Search.{is_equality, relation_single, relation_singles}
use Rattle.htn_ground.proofs.Classified.{turned}

-- ## Ascending numbers without one

-- a number isn't among greater ones
none_above : (x : ℕ) (xs : List ℕ) → All (λ y. nat_cmp x y ≡ Less) xs → list_any (eqb x) xs ≡ false
none_above x xs above = list_any_none (eqb x) xs (λ k d below. unsigned_ties x (get_or xs k d) ∙ ap is_eq (above k d below))

-- equal numbers, by the test
is_equal : (m n : ℕ) → eqb m n ≡ true → n ≡ m
is_equal m n e = grind (arith, nat_tests)

-- the first of both
and_first : (a b : Bool) → (a && b) ≡ true → a ≡ true
and_first true b e = refl
and_first false b e = cc

-- the second of both
and_second : (a b : Bool) → (a && b) ≡ true → b ≡ true
and_second true b e = e
and_second false b e = cc

-- not both, where the second isn't
and_false : (a b : Bool) → b ≡ false → (a && b) ≡ false
and_false true b e = e
and_false false b e = refl

-- one member that is or isn't counted apart
stands : (b c : Bool) (y : ℕ) (xs ys : List ℕ) → c ≡ b → length ys ≡ length xs → length ys + cond c 1 0 ≡ length (cond b (y ∷ xs) xs)
stands true c y xs ys e same = ap (λ d. length ys + cond d 1 0) e ∙ one_more (length ys) (length xs) same
  where
    one_more : (m n : ℕ) → m ≡ n → m + 1 ≡ suc n
    one_more m n e = omega arith
stands false c y xs ys e same = ap (λ d. length ys + cond d 1 0) e ∙ no_more (length ys) (length xs) same
  where
    no_more : (m n : ℕ) → m ≡ n → m + 0 ≡ n
    no_more m n e = omega arith

-- one member more that is kept or not
later : (b : Bool) (n y : ℕ) (xs ys : List ℕ) → length ys + n ≡ length xs → length (cond (b && true) (y ∷ ys) ys) + n ≡ length (cond b (y ∷ xs) xs)
later true n y xs ys same = both_more (length ys) n (length xs) same
  where
    both_more : (k m n : ℕ) → k + m ≡ n → suc k + m ≡ suc n
    both_more k m n e = omega arith
later false n y xs ys same = same

-- nothing is counted of what doesn't pass
gone : (b c : Bool) (m n : ℕ) → b ≡ false → m + cond (b && c) 1 0 ≡ n → m ≡ n
gone true c m n e sum = absurd cc
gone false c m n e sum = omega (arith, sum)

module _ (p : ℕ → Bool) (x : ℕ) where
  -- passes, and isn't this one
  abbrev without : ℕ → Bool
  without o = p o && not (eqb o x)

  -- in an ascending list one less passes, if this one does and stands there
  pub length-without : (xs : List ℕ) → IsStrictlySortedBy nat_cmp xs → length (filter without xs) + cond (list_any (eqb x) xs && p x) 1 0 ≡ length (filter p xs)
  length-without [] up = refl
  length-without (y ∷ xs) up =
      elim (eqb x y) as (λ b. eqb x y ≡ b → length (cond (p y && not (eqb y x)) (y ∷ filter without xs) (filter without xs)) + cond ((b || list_any (eqb x) xs) && p x) 1 0 ≡ length (cond (p y) (y ∷ filter p xs) (filter p xs))) [
        | true ↦ λ e.
            let same : y ≡ x = is_equal x y e in
            let none : list_any (eqb x) xs ≡ false = none_above x xs (subst (λ z. All (λ w. nat_cmp z w ≡ Less) xs) same (All-after_first nat_cmp y xs up)) in
            let alike : length (filter without xs) ≡ length (filter p xs) = gone (list_any (eqb x) xs) (p x) (length (filter without xs)) (length (filter p xs)) none (length-without xs (sorted_tail nat_cmp y xs up)) in
            ap (λ b. length (cond b (y ∷ filter without xs) (filter without xs)) + cond (p x) 1 0) (and_false (p y) (not (eqb y x)) (ap not (sym (turned x y) ∙ e)))
            ∙ stands (p y) (p x) y (filter p xs) (filter without xs) (ap p (sym same)) alike
        | false ↦ λ e.
            ap (λ b. length (cond (p y && not b) (y ∷ filter without xs) (filter without xs)) + cond (list_any (eqb x) xs && p x) 1 0) (sym (turned x y) ∙ e)
            ∙ later (p y) (cond (list_any (eqb x) xs && p x) 1 0) y (filter p xs) (filter without xs) (length-without xs (sorted_tail nat_cmp y xs up))
      ] refl

-- nothing passes a test that none passes
filter_nothing : (p : ℕ → Bool) → ((o : ℕ) → p o ≡ false) → (xs : List ℕ) → filter p xs ≡ []
filter_nothing p fails [] = refl
filter_nothing p fails (x ∷ xs) = ap (λ b. cond b (x ∷ filter p xs) (filter p xs)) (fails x) ∙ filter_nothing p fails xs

-- equal numbers, as a test
is_itself : (o x : ℕ) → o ≡ x → eqb o x ≡ true
is_itself o x e = grind (arith, nat_tests)

-- where the test allows x alone
pub length-only : (p : ℕ → Bool) (x : ℕ) → ((o : ℕ) → p o ≡ true → o ≡ x) → (xs : List ℕ) → IsStrictlySortedBy nat_cmp xs → length (filter p xs) ≡ cond (list_any (eqb x) xs && p x) 1 0
length-only p x only xs up =
    sym (length-without p x xs up)
    ∙ ap (λ (l : List ℕ). length l + cond (list_any (eqb x) xs && p x) 1 0) (filter_nothing (λ o. p o && not (eqb o x)) (λ o. none (p o) o (only o)) xs)
    ∙ plain (cond (list_any (eqb x) xs && p x) 1 0)
  where
    plain : (n : ℕ) → 0 + n ≡ n
    plain n = omega arith

    none : (b : Bool) (o : ℕ) → (b ≡ true → o ≡ x) → (b && not (eqb o x)) ≡ false
    none true o h = ap not (is_itself o x (h refl))
    none false o h = refl

-- where only this one may pass and doesn't, none does
pub nothing-only : (p : ℕ → Bool) (x : ℕ) → ((o : ℕ) → p o ≡ true → o ≡ x) → (xs : List ℕ) → IsStrictlySortedBy nat_cmp xs → (list_any (eqb x) xs && p x) ≡ false → filter p xs ≡ []
nothing-only p x only xs up fails = nil_from_length (filter p xs) (length-only p x only xs up ∙ ap (λ b. cond b 1 0) fails)

-- a member that doesn't pass makes no difference to whether this one stands there
differ : (b l q : Bool) → (b ≡ true → q ≡ false) → (l && q) ≡ ((b || l) && q)
differ true l q h = and_false l q (h refl) ∙ sym (h refl)
differ false l q h = refl

-- where the test allows x alone, what passes is x or nothing
pub only_kept : (p : ℕ → Bool) (x : ℕ) → ((o : ℕ) → p o ≡ true → o ≡ x) → (xs : List ℕ) → IsStrictlySortedBy nat_cmp xs → filter p xs ≡ cond (list_any (eqb x) xs && p x) (x ∷ []) []
only_kept p x only [] up = refl
only_kept p x only (y ∷ xs) up =
    elim (p y) as (λ b. p y ≡ b → cond b (y ∷ filter p xs) (filter p xs) ≡ cond ((eqb x y || list_any (eqb x) xs) && p x) (x ∷ []) []) [
      | true ↦ λ e.
          let same : y ≡ x = only y e in
          let none : list_any (eqb x) xs ≡ false = none_above x xs (subst (λ z. All (λ w. nat_cmp z w ≡ Less) xs) same (All-after_first nat_cmp y xs up)) in
          let rest : filter p xs ≡ [] = nothing-only p x only xs (sorted_tail nat_cmp y xs up) (ap (λ b. b && p x) none) in
          let here : ((eqb x y || list_any (eqb x) xs) && p x) ≡ true = λ i. (is_itself x y (sym same) i || list_any (eqb x) xs) && (ap p (sym same) ∙ e) i in
          (λ i. same i ∷ rest i) ∙ sym (ap (λ b. cond b (x ∷ []) []) here)
      | false ↦ λ e.
          only_kept p x only xs (sorted_tail nat_cmp y xs up)
          ∙ ap (λ b. cond b (x ∷ []) []) (differ (eqb x y) (list_any (eqb x) xs) (p x) (λ h. ap p (sym (is_equal x y h)) ∙ e))
    ] refl

-- one of two, by the second
or_later : (a b : Bool) → b ≡ true → (a || b) ≡ true
or_later true b h = refl
or_later false b h = h

-- where the test allows all that stand in a list
pub all_kept : (p : ℕ → Bool) (xs : List ℕ) → ((o : ℕ) → list_any (eqb o) xs ≡ true → p o ≡ true) → filter p xs ≡ xs
all_kept p [] passes = refl
all_kept p (y ∷ xs) passes =
    ap (λ b. cond b (y ∷ filter p xs) (filter p xs)) (passes y (ap (λ b. b || list_any (eqb y) xs) (is_itself y y refl)))
    ∙ ap (λ l. y ∷ l) (all_kept p xs (λ o h. passes o (or_later (eqb o y) (list_any (eqb o) xs) h)))

-- ## One relation more

-- a test against true
beq_true : (b : Bool) → beq true b ≡ b
beq_true true = refl
beq_true false = refl

-- a test against false
beq_false : (b : Bool) → beq false b ≡ not b
beq_false true = refl
beq_false false = refl

module _ (relations : List Relation) (values : List ℕ) (place : ℕ) where
  -- all relations allow the object at the place
  abbrev allows : ℕ → Bool
  allows = relation_singles relations values place

  -- what the first n relations allow
  abbrev allows_first : ℕ → ℕ → Bool
  allows_first n = relation_singles (take n relations) values place

  module _ (i : ℕ) (d : Relation) (below : i < length relations) where
    -- the next relation
    abbrev here : Relation
    here = get_or relations i d

    -- an object is allowed by one relation more
    allows_more : (o : ℕ) → allows_first (i + 1) o ≡ (allows_first i o && relation_single values here place o)
    allows_more o =
        ap (λ (rs : List Relation). relation_singles rs values place o) (take_more relations i d below)
        ∙ list_all-append (λ (s : Relation). relation_single values s place o) (take i relations) (here ∷ [])
        ∙ ap (λ b. allows_first i o && b) (and-true (relation_single values here place o))

    -- a relation that allows all objects
    pub count_same : (count : ℕ) (objects : List ℕ) → ((o : ℕ) → relation_single values here place o ≡ true)
        → count ≡ length (filter (allows_first i) objects) → count ≡ length (filter (allows_first (i + 1)) objects)
    count_same count objects all so_far =
        so_far
        ∙ ap length (filter_agree (allows_first i) (allows_first (i + 1)) (λ o. sym (allows_more o ∙ ap (λ b. allows_first i o && b) (all o) ∙ and-true (allows_first i o))) objects)

    -- a negated equality
    pub count_less : (count x : ℕ) (objects : List ℕ) → ((o : ℕ) → relation_single values here place o ≡ beq (is_equality here) (eqb o x)) → is_equality here ≡ false
        → IsStrictlySortedBy nat_cmp objects → count ≡ length (filter (allows_first i) objects)
        → length (filter (allows_first (i + 1)) objects) + cond (list_any (eqb x) objects && allows_first i x) 1 0 ≡ count
    count_less count x objects single negated up so_far =
        ap (λ (l : List ℕ). length l + cond (list_any (eqb x) objects && allows_first i x) 1 0)
        (filter_agree (allows_first (i + 1)) (λ o. allows_first i o && not (eqb o x)) (λ o. allows_more o ∙ ap (λ b. allows_first i o && b) (single o ∙ ap (λ b. beq b (eqb o x)) negated ∙ beq_false (eqb o x))) objects)
        ∙ length-without (allows_first i) x objects up
        ∙ sym so_far

    -- an equality
    pub allows_only : (x : ℕ) → ((o : ℕ) → relation_single values here place o ≡ beq (is_equality here) (eqb o x)) → is_equality here ≡ true
        → (o : ℕ) → allows o ≡ true → o ≡ x
    allows_only x single positive o all =
        sym (is_equal o x (sym (beq_true (eqb o x)) ∙ ap (λ b. beq b (eqb o x)) (sym positive) ∙ sym (single o) ∙ allows_one relations i below all))
      where
        allows_one : (rs : List Relation) (k : ℕ) → k < length rs → relation_singles rs values place o ≡ true → relation_single values (get_or rs k d) place o ≡ true
        allows_one [] k inside h = absurd (omega arith)
        allows_one (q ∷ rs) zero inside h = and_first _ _ h
        allows_one (q ∷ rs) (suc k) inside h = allows_one rs k (omega arith) (and_second _ _ h)
