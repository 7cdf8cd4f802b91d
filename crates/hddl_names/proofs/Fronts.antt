-- A search that follows the rows of each number that it found, in turn.
use Rattle.std.proofs.Common.{◌≡◌, ℕ, ◌<◌, ◌≤◌, ◌+◌, List, [], ◌∷◌, refl, sym, ap, subst, ◌∙◌, arith, inl, inr, ⊎_elim, nat_eq, length, get_or}
use Rattle.std.specs.List.{All, Contains, IsDistinct}
use Rattle.std.proofs.lemmas.Bool.{eqb-true, cases_lt}
use Rattle.std.proofs.lemmas.List.{get_or_append_left, get_or_default}
use Rattle.std.proofs.Common.{slice_get, Some}
use Rattle.std.proofs.lemmas.Option.{get_or_from_slice_get, slice_get_within}
use Rattle.std.proofs.lemmas.List.Elements.{All-get_or, All-contains}
use Rattle.std.specs.Cmp.{nat_eq_equiv}
use Rattle.std.proofs.lemmas.Map.Steps.{length-le_from_distinct_below}
use Rattle.indexmap.specs.IndexSet.{insert_all}
use Rattle.indexmap.proofs.CallerLemmas.{Contains-list_any}
use Rattle.hddl_names.proofs.Distinct.{insert_all-more, insert_all-old, insert_all-new, insert_all-cases, insert_all-different}
use Rattle.htn_order.specs.Closure.{Precedes, Direct, Through}
use Rattle.hddl_names.specs.Rows.{AreRows, AreWithin}
use Rattle.hddl_names.specs.Reach.{Reaches, IsReached, AreReached}
use Rattle.hddl_names.proofs.Within.{first, nothing, cons_cases}

-- ## The search

-- the numbers that were found, of which the rows of the first i were followed
pub record IsFront (rows : List (List ℕ)) (starts : List ℕ) (found : List ℕ) (i : ℕ) : Type 0 where
  pub has : (t : ℕ) → Contains starts t → Contains found t
  pub different : IsDistinct nat_eq found
  pub within : (x : ℕ) → Contains found x → x < length rows
  pub sound : (pairs : List (ℕ × ℕ)) → AreRows pairs rows → (x : ℕ) → Contains found x → (t : ℕ) × Contains starts t × Reaches pairs t x
  pub closed : (j y : ℕ) → j < i → j < length found → Contains (get_or rows (get_or found j 0) []) y → Contains found y

-- at first the starts are found, and no row is followed
pub front_start : (rows : List (List ℕ)) (starts found : List ℕ) → found ≡ insert_all nat_eq [] starts → All (λ t. t < length rows) starts → IsFront rows starts found 0
unfolding IsDistinct
front_start rows starts found is small =
    subst (λ f. IsFront rows starts f 0) (sym is)
    record {
      has = λ t h. insert_all-new nat_eq eqb-true [] starts t h;
      different = insert_all-different nat_eq_equiv [] starts tt;
      within = λ x h. All-contains (λ t. t < length rows) starts x small (there x h);
      sound = λ pairs are x h. (x, there x h, inl refl);
      closed = λ j y below small h. absurd (omega (arith, below));
    }
  where
    there : (x : ℕ) → Contains (insert_all nat_eq [] starts) x → Contains starts x
    there x h = ⊎_elim (λ none. absurd (nothing x none)) (λ t. t) (insert_all-cases nat_eq [] starts x h)

-- a way with a pair more at its end is a way
pub one_more : (pairs : List (ℕ × ℕ)) (a b c : ℕ) → Reaches pairs a b → Contains {X = ℕ × ℕ} pairs (b, c) → Reaches pairs a c
one_more pairs a b c (inl is) pair = inr (Direct a c (subst (λ x. Contains {X = ℕ × ℕ} pairs (x, c)) (sym is) pair))
one_more pairs a b c (inr r) pair = inr (along a b r pair)
  where
    along : (x y : ℕ) → Precedes pairs x y → Contains {X = ℕ × ℕ} pairs (y, c) → Precedes pairs x c
    along _ _ (Direct x y first) pair = Through x y c first (Direct y c pair)
    along _ _ (Through x m y first rest) pair = Through x m c first (along m y rest pair)

-- one number more whose row is followed
pub front_more : (rows : List (List ℕ)) (starts found new : List ℕ) (i t : ℕ) → AreWithin rows → slice_get found i ≡ Some t → new ≡ insert_all nat_eq found (get_or rows t [])
    → IsFront rows starts found i → IsFront rows starts new (i + 1)
front_more rows starts found new i t square at is front =
    subst (λ f. IsFront rows starts f (i + 1)) (sym is)
    record {
      has = λ t h. insert_all-old nat_eq eqb-true found row t (front.has t h);
      different = insert_all-different nat_eq_equiv found row front.different;
      within = λ x h. ⊎_elim (front.within x) (λ there. All-contains (λ x. x < length rows) row x (All-get_or (All (λ x. x < length rows)) rows t [] (front.within t here) square) there) (insert_all-cases nat_eq found row x h);
      sound = λ pairs are x h. ⊎_elim (front.sound pairs are x) (λ there. let from = front.sound pairs are t here in (from.0, from.1, one_more pairs from.0 t x from.2 ((are t x).0 there))) (insert_all-cases nat_eq found row x h);
      closed = λ j y below small h. ⊎_elim
          (λ less. insert_all-old nat_eq eqb-true found row y (front.closed j y less (omega (arith, less, inside)) (subst (λ x. Contains (get_or rows x []) y) (kept j (omega (arith, less, inside))) h)))
          (λ past. let last : j ≡ i = omega (arith, past, below) in
          insert_all-new nat_eq eqb-true found row y (subst (λ x. Contains (get_or rows x []) y) (ap (λ k. get_or (insert_all nat_eq found row) k 0) last ∙ kept i inside ∙ read) h))
          (cases_lt j i);
    }
  where
    row : List ℕ
    row = get_or rows t []

    inside : i < length found
    inside = slice_get_within found i t at

    read : get_or found i 0 ≡ t
    read = get_or_from_slice_get found i t 0 at

    here : Contains found t
    here = (i, inside, get_or_from_slice_get found i t t at)

    kept : (j : ℕ) → j < length found → get_or (insert_all nat_eq found row) j 0 ≡ get_or found j 0
    kept j lt = let grown = insert_all-more nat_eq found row in ap (λ l. get_or l j 0) grown.1 ∙ get_or_append_left found grown.0 0 j lt

-- where all rows are followed, all that is reached is found
pub front_end : (rows : List (List ℕ)) (starts found : List ℕ) (i : ℕ) → length found ≤ i → IsFront rows starts found i → AreReached rows starts found
front_end rows starts found i all front pairs are x = (front.sound pairs are x, λ from. ⊎_elim (λ is. subst (Contains found) is (front.has from.0 from.1)) (λ p. along from.0 x p (front.has from.0 from.1)) from.2)
  where
    closed : (a b : ℕ) → Contains found a → Contains {X = ℕ × ℕ} pairs (a, b) → Contains found b
    closed a b (k, lt, is) pair =
        front.closed k b (omega (arith, lt, all)) lt (subst (λ x. Contains (get_or rows x []) b) (sym (get_or_default found k 0 a lt ∙ is)) ((are a b).1 pair))

    along : (a b : ℕ) → Precedes pairs a b → Contains found a → Contains found b
    along _ _ (Direct a b first) here = closed a b here first
    along _ _ (Through a b c first rest) here = along b c rest (closed a b here first)

-- there are at most as many numbers as rows
pub front_small : (rows : List (List ℕ)) (starts found : List ℕ) (i : ℕ) → IsFront rows starts found i → length found ≤ length rows
front_small rows starts found i front =
    length-le_from_distinct_below found (length rows) front.different (λ q h. front.within q (Contains-list_any nat_eq eqb-true found q h))

-- a list of one value contains no other
only : (x y : ℕ) → Contains (x ∷ []) y → x ≡ y
only x y h = ⊎_elim (λ is. is) (λ none. absurd (nothing y none)) (cons_cases x y [] h)

-- what a list of one number reaches is what the number reaches
pub one_start : (rows : List (List ℕ)) (start : ℕ) (found : List ℕ) → AreReached rows (start ∷ []) found → IsReached rows start found
one_start rows start found all pairs are x = (
  λ h. let from = (all pairs are x).0 h in subst (λ t. Reaches pairs t x) (sym (only start from.0 from.1)) from.2,
  λ r. (all pairs are x).1 (start, first start [], r),
)
