-- Rows that are made from pairs, one pair after another.
use Rattle.std.proofs.Common.{◌≡◌, ◌≢◌, ℕ, ◌<◌, ◌≤◌, ◌+◌, ◌&&◌, ◌⊎◌, Bool, true, List, [], ◌∷◌, ◌++◌, sym, ap, ap₂, subst, ◌∙◌, arith, inl, inr, ⊎_elim, length, get_or, set, take, replicate, nat_eq, get_or-set_same, get_or-set_other}
use Rattle.std.specs.List.{Contains}
use Rattle.std.proofs.lemmas.Bool.{eqb-true, and_parts, cases_eq, cases_lt}
use Rattle.std.proofs.lemmas.List.{take_more, take_all, get_or-replicate, get_or_past, length-replicate}
use Rattle.std.proofs.lemmas.List.Elements.{Contains-append_left, Contains-append_right, Contains-push_cases, Contains-get_or, All-contains, All-from_get_or}
use Rattle.indexmap.specs.IndexSet.{insert_key}
use Rattle.indexmap.proofs.CallerLemmas.{Contains-insert_key}
use Rattle.htn_order.specs.Closure.{AreBelow}
use Rattle.hddl_names.specs.Rows.{AreRows, HasSame}
use Rattle.hddl_names.proofs.Distinct.{insert-cases, insert_all-old}

-- whether two pairs have the same numbers
abbrev pub same_pair : ℕ × ℕ → ℕ × ℕ → Bool
same_pair x y = nat_eq x.0 y.0 && nat_eq x.1 y.1

-- pairs with the same numbers are equal
pub exact : (x y : ℕ × ℕ) → same_pair x y ≡ true → x ≡ y
exact x y e = let parts = and_parts (nat_eq x.0 y.0) (nat_eq x.1 y.1) e in ap₂ (λ a b. (a, b)) (eqb-true x.0 y.0 parts.0) (eqb-true x.1 y.1 parts.1)

-- a list of one value contains it
last : (x y : ℕ × ℕ) → x ≡ y → Contains {X = ℕ × ℕ} (x ∷ []) y
last x y is = (0, omega arith, is)

-- one pair more that is kept once
pub same_more : (ks pairs : List (ℕ × ℕ)) (i : ℕ) → i < length pairs → HasSame ks (take i pairs) → HasSame (insert_key same_pair ks (get_or pairs i (0, 0))) (take (i + 1) pairs)
same_more ks pairs i lt has x = (
  λ h. subst (λ l. Contains {X = ℕ × ℕ} l x) (sym more)
      (⊎_elim (λ old. Contains-append_left (take i pairs) (p ∷ []) x ((has x).0 old)) (λ is. Contains-append_right (take i pairs) (p ∷ []) x (last p x is)) (insert-cases same_pair ks p x h)),
  λ h. ⊎_elim (λ old. insert_all-old same_pair exact ks (p ∷ []) x ((has x).1 old)) (λ is. subst (Contains {X = ℕ × ℕ} (insert_key same_pair ks p)) is (Contains-insert_key same_pair exact ks p))
      (Contains-push_cases (take i pairs) p x (subst (λ l. Contains {X = ℕ × ℕ} l x) more h)),
)
  where
    p : ℕ × ℕ
    p = get_or pairs i (0, 0)

    more : take (i + 1) pairs ≡ take i pairs ++ p ∷ []
    more = take_more pairs i (0, 0) lt

-- at the end all pairs are kept
pub same_end : (ks pairs : List (ℕ × ℕ)) (i : ℕ) → length pairs ≤ i → HasSame ks (take i pairs) → HasSame ks pairs
same_end ks pairs i past has = subst (HasSame ks) (take_all i pairs past) has

-- before the first pair all rows are empty
pub rows_start : (n : ℕ) (pairs : List (ℕ × ℕ)) → AreRows (take 0 pairs) (replicate n [])
rows_start n pairs a b = (λ h. absurd (nothing (subst (λ r. Contains r b) (empty a) h)), λ h. absurd (none h))
  where
    empty : (a : ℕ) → get_or (replicate {A = List ℕ} n []) a [] ≡ []
    empty a = ⊎_elim (λ lt. get_or-replicate n a [] [] lt) (λ past. get_or_past (replicate {A = List ℕ} n []) a [] (omega (arith, past, length-replicate {A = List ℕ} n []))) (cases_lt a n)

    nothing : Contains {X = ℕ} [] b → ⊥
    nothing (k, lt, is) = omega (arith, lt)

    none : Contains {X = ℕ × ℕ} (take 0 pairs) (a, b) → ⊥
    none (k, lt, is) = omega (arith, lt)

-- one pair more is in the row of its first number
pub rows_more : (rows new : List (List ℕ)) (pairs : List (ℕ × ℕ)) (i t u : ℕ) → i < length pairs → ◌≡◌ {A = ℕ × ℕ} (get_or pairs i (0, 0)) (t, u) → t < length rows
    → new ≡ set rows t (get_or rows t [] ++ u ∷ []) → AreRows (take i pairs) rows → AreRows (take (i + 1) pairs) new
rows_more rows new pairs i t u lt pair small is are a b = (λ h. to (cases_eq a t) h, λ h. from (Contains-push_cases (take i pairs) (t, u) (a, b) (subst (λ l. Contains {X = ℕ × ℕ} l (a, b)) more h)))
  where
    more : take (i + 1) pairs ≡ take i pairs ++ (t, u) ∷ []
    more = take_more pairs i (0, 0) lt ∙ ap (λ p. take i pairs ++ p ∷ []) pair

    row : List ℕ
    row = get_or rows t [] ++ u ∷ []

    here : get_or new t [] ≡ row
    here = ap (λ r. get_or r t []) is ∙ get_or-set_same rows t row [] small

    there : (a : ℕ) → a ≢ t → get_or new a [] ≡ get_or rows a []
    there a ne = ap (λ r. get_or r a []) is ∙ get_or-set_other rows t a row [] ne

    widen : (a b : ℕ) → Contains {X = ℕ × ℕ} (take i pairs) (a, b) → Contains {X = ℕ × ℕ} (take (i + 1) pairs) (a, b)
    widen a b old = subst (λ l. Contains {X = ℕ × ℕ} l (a, b)) (sym more) (Contains-append_left (take i pairs) ((t, u) ∷ []) (a, b) old)

    to : (a ≡ t) ⊎ (a ≢ t) → Contains (get_or new a []) b → Contains {X = ℕ × ℕ} (take (i + 1) pairs) (a, b)
    to (inl e) h =
        ⊎_elim (λ old. subst (λ k. Contains {X = ℕ × ℕ} (take (i + 1) pairs) (k, b)) (sym e) (widen t b ((are t b).0 old)))
        (λ last_is. subst (λ l. Contains {X = ℕ × ℕ} l (a, b)) (sym more) (Contains-append_right (take i pairs) ((t, u) ∷ []) (a, b) (last (t, u) (a, b) (ap₂ (λ x y. (x, y)) (sym e) last_is))))
        (Contains-push_cases (get_or rows t []) u b (subst (λ r. Contains r b) (ap (λ k. get_or new k []) e ∙ here) h))
    to (inr ne) h = widen a b ((are a b).0 (subst (λ r. Contains r b) (there a ne) h))

    in_row : (a : ℕ) → (a ≡ t) ⊎ (a ≢ t) → Contains (get_or rows a []) b → Contains (get_or new a []) b
    in_row a (inl e) old = subst (λ k. Contains (get_or new k []) b) (sym e) (subst (λ r. Contains r b) (sym here) (Contains-append_left (get_or rows t []) (u ∷ []) b (subst (λ k. Contains (get_or rows k []) b) e old)))
    in_row a (inr ne) old = subst (λ r. Contains r b) (sym (there a ne)) old

    from : Contains {X = ℕ × ℕ} (take i pairs) (a, b) ⊎ (◌≡◌ {A = ℕ × ℕ} (t, u) (a, b)) → Contains (get_or new a []) b
    from (inl old) = in_row a (cases_eq a t) ((are a b).1 old)
    from (inr e) =
        subst (λ k. Contains (get_or new k []) b) (ap (λ p. p.0) e)
        (subst (λ r. Contains r b) (sym here) (Contains-append_right (get_or rows t []) (u ∷ []) b (0, omega arith, ap (λ p. p.1) e)))

-- at the end the rows have all pairs
pub rows_end : (rows : List (List ℕ)) (pairs : List (ℕ × ℕ)) (i : ℕ) → length pairs ≤ i → AreRows (take i pairs) rows → AreRows pairs rows
rows_end rows pairs i past are = subst (λ ps. AreRows ps rows) (take_all i pairs past) are

-- rows of the same pairs
pub rows_same : (xs ys : List (ℕ × ℕ)) (rows : List (List ℕ)) → HasSame xs ys → AreRows xs rows → AreRows ys rows
rows_same xs ys rows has are a b = (λ h. (has (a, b)).0 ((are a b).0 h), λ h. (are a b).1 ((has (a, b)).1 h))

-- lists with the same pairs are below the same bound
pub below_same : (n : ℕ) (xs ys : List (ℕ × ℕ)) → HasSame xs ys → AreBelow n ys → AreBelow n xs
below_same n xs ys has below =
    All-from_get_or (λ (p : ℕ × ℕ). (p.0 < n) × (p.1 < n)) xs (0, 0)
    (λ i lt. All-contains (λ (p : ℕ × ℕ). (p.0 < n) × (p.1 < n)) ys (get_or xs i (0, 0)) below ((has (get_or xs i (0, 0))).0 (Contains-get_or xs i (0, 0) lt)))
