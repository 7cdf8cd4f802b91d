-- How often lines stand in lists, and that siblings that are drawn stand there as often as those that are listed.
use Rattle.std.proofs.Common.{◌≡◌, ℕ, zero, suc, ◌+◌, ◌-◌, ◌<◌, ◌≤◌, Bool, true, false, nat_eq, cond, ltb, fold, List, [], ◌∷◌, ◌++◌, length, get_or, filter, Option, inl, inr, refl, ap, subst, ⊎_elim, arith}
use Rattle.std.proofs.lemmas.Bool.{cases_Bool, eqb-true, eq-eqb}
use Rattle.std.proofs.lemmas.List.Sorted.{length_permutation, sum_by-IsPermutation}
use Rattle.htn_model.specs.PlanFile.{IsIn, IsWithoutRepeats}
use Rattle.plan_text.specs.Reached.{children_at}
use Rattle.plan_picture.specs.Order.{is_some, refilled, AreDrawn, AreAllDrawn}

-- one, if two numbers are the same
abbrev pub hit : ℕ → ℕ → ℕ
hit x y = cond (nat_eq x y) 1 0

-- how often a number stands in a list
abbrev pub tally : ℕ → List ℕ → ℕ
tally x [] = 0
tally x (y ∷ ys) = hit x y + tally x ys

pub hit_same : (x y : ℕ) → x ≡ y → hit x y ≡ 1
hit_same x y e = ap (λ b. cond b 1 0) (eq-eqb x y e)

pub tally-append : (x : ℕ) (xs ys : List ℕ) → tally x (xs ++ ys) ≡ tally x xs + tally x ys
tally-append x [] ys = omega arith
tally-append x (z ∷ xs) ys = let e = tally-append x xs ys in omega arith

-- none, where it does not stand there
pub none_tally : (x : ℕ) (xs : List ℕ) → (IsIn x xs → ⊥) → tally x xs ≡ 0
none_tally x [] not = refl
none_tally x (y ∷ ys) not =
    let more = none_tally x ys (λ i. not (inr i)) in
    ⊎_elim (λ same. absurd (not (inl (eqb-true x y same)))) (λ other. (let e : hit x y ≡ 0 = ap (λ b. cond b 1 0) other in omega arith)) (cases_Bool (nat_eq x y))

-- some, where it does
pub some_tally : (x : ℕ) (xs : List ℕ) → IsIn x xs → 0 < tally x xs
some_tally x [] i = absurd i
some_tally x (y ∷ ys) (inl same) = let e = hit_same x y same in omega arith
some_tally x (y ∷ ys) (inr i) = let more = some_tally x ys i in omega arith

pub tally_some : (x : ℕ) (xs : List ℕ) → 0 < tally x xs → IsIn x xs
tally_some x [] some = absurd (omega arith)
tally_some x (y ∷ ys) some =
    ⊎_elim (λ same. inl (eqb-true x y same)) (λ other. inr (tally_some x ys (let e : hit x y ≡ 0 = ap (λ b. cond b 1 0) other in omega arith))) (cases_Bool (nat_eq x y))

-- once at most, where none stands twice
pub once_tally : (x : ℕ) (xs : List ℕ) → IsWithoutRepeats xs → tally x xs ≤ 1
once_tally x [] once = omega arith
once_tally x (y ∷ ys) once =
    ⊎_elim
    (λ same.
    let none : tally x ys ≡ 0 = none_tally x ys (λ i. once.0 (subst (λ z. IsIn z ys) (eqb-true x y same) i)) in
    let e : hit x y ≡ 1 = ap (λ b. cond b 1 0) same in
    omega arith)
    (λ other. (let more = once_tally x ys once.1 in let e : hit x y ≡ 0 = ap (λ b. cond b 1 0) other in omega arith)) (cases_Bool (nat_eq x y))

-- and where each stands once at most, none stands twice
pub tally_once : (xs : List ℕ) → ((x : ℕ) → IsIn x xs → tally x xs ≤ 1) → IsWithoutRepeats xs
tally_once [] most = tt
tally_once (y ∷ ys) most =
    ((λ i. let few = most y (inl refl) in let more = some_tally y ys i in let e = hit_same y y refl in omega arith), tally_once ys (λ x i. (let few = most x (inr i) in omega arith)))

-- ## Siblings that are drawn

folded : (x n : ℕ) (xs : List ℕ) → fold (λ a y. a + hit x y) n xs ≡ n + tally x xs
folded x n [] = omega arith
folded x n (y ∷ xs) = let e = folded x (n + hit x y) xs in omega arith

refilled_tally : (first : ℕ → Option ℕ) (x : ℕ) (lines others : List ℕ) → length others ≡ length (filter (λ l. is_some (first l)) lines)
    → tally x (refilled first lines others) + tally x (filter (λ l. is_some (first l)) lines) ≡ tally x lines + tally x others
refilled_tally first x [] [] e = refl
refilled_tally first x [] (o ∷ others) e = absurd (omega arith)
refilled_tally first x (l ∷ lines) [] e = by (is_some (first l)) e (refilled_tally first x lines [])
  where
    by : (b : Bool) → 0 ≡ length (cond b (l ∷ filter (λ k. is_some (first k)) lines) (filter (λ k. is_some (first k)) lines))
        → (0 ≡ length (filter (λ k. is_some (first k)) lines) → tally x (refilled first lines []) + tally x (filter (λ k. is_some (first k)) lines) ≡ tally x lines + 0)
        → tally x (l ∷ refilled first lines []) + tally x (cond b (l ∷ filter (λ k. is_some (first k)) lines) (filter (λ k. is_some (first k)) lines)) ≡ tally x (l ∷ lines) + 0
    by true same more = absurd (omega arith)
    by false same more = let here = more same in omega arith
refilled_tally first x (l ∷ lines) (o ∷ others) e = by (is_some (first l)) e (refilled_tally first x lines others) (refilled_tally first x lines (o ∷ others))
  where
    by : (b : Bool) → suc (length others) ≡ length (cond b (l ∷ filter (λ k. is_some (first k)) lines) (filter (λ k. is_some (first k)) lines))
        → (length others ≡ length (filter (λ k. is_some (first k)) lines) → tally x (refilled first lines others) + tally x (filter (λ k. is_some (first k)) lines) ≡ tally x lines + tally x others)
        → (suc (length others) ≡ length (filter (λ k. is_some (first k)) lines)
        → tally x (refilled first lines (o ∷ others)) + tally x (filter (λ k. is_some (first k)) lines) ≡ tally x lines + tally x (o ∷ others))
        → tally x (cond b (o ∷ refilled first lines others) (l ∷ refilled first lines (o ∷ others))) + tally x (cond b (l ∷ filter (λ k. is_some (first k)) lines) (filter (λ k. is_some (first k)) lines))
        ≡ tally x (l ∷ lines) + tally x (o ∷ others)
    by true same taken left = let here = taken (omega arith) in omega arith
    by false same taken left = let here = left same in omega arith

-- they stand as often
pub drawn_tally : (first : ℕ → Option ℕ) (x : ℕ) (listed drawn : List ℕ) → AreDrawn first listed drawn → tally x drawn ≡ tally x listed
drawn_tally first x listed drawn are =
    let some = filter (λ l. is_some (first l)) listed in
    let long = length_permutation some are.by_action are.same_lines in
    let sums = sum_by-IsPermutation (hit x) some are.by_action are.same_lines in
    let here = folded x 0 some in
    let there = folded x 0 are.by_action in
    let whole = refilled_tally first x listed are.by_action long in
    let places = ap (tally x) are.places in
    omega arith

-- list by list
pub drawn_tallies : (first : ℕ → Option ℕ) (x : ℕ) (lists drawn : List (List ℕ)) → AreAllDrawn first lists drawn → (k : ℕ) → tally x (get_or drawn k []) ≡ tally x (get_or lists k [])
drawn_tallies first x [] drawn are k = ap (λ ds. tally x (get_or ds k [])) are
drawn_tallies first x (listed ∷ lists) [] are k = absurd are
drawn_tallies first x (listed ∷ lists) (d ∷ drawn) are zero = drawn_tally first x listed d are.0
drawn_tallies first x (listed ∷ lists) (d ∷ drawn) are (suc k) = drawn_tallies first x lists drawn are.1 k

-- line by line
pub children_tally : (actions : ℕ) (first : ℕ → Option ℕ) (x : ℕ) (lists drawn : List (List ℕ)) → AreAllDrawn first lists drawn
    → (line : ℕ) → tally x (children_at actions drawn line) ≡ tally x (children_at actions lists line)
children_tally actions first x lists drawn are line = by (ltb line actions)
  where
    by : (b : Bool) → tally x (cond b [] (get_or drawn (line - actions) [])) ≡ tally x (cond b [] (get_or lists (line - actions) []))
    by true = refl
    by false = drawn_tallies first x lists drawn are (line - actions)
