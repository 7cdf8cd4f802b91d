-- Sets that number what they hold.
use Rattle.std.proofs.Common.{◌≡◌, ℕ, zero, suc, ◌<◌, ◌≤◌, inl, inr, Bool, true, false, not, cond, if◌then◌else◌, List, [], ◌∷◌, ◌++◌, map, length, get_or, refl, sym, ap, subst, ◌∙◌, arith, true≢false, slice_get, Some, None}
use Rattle.std.specs.Prelude.{position, IfNone, Option}
use Rattle.std.specs.List.{IsDistinct, list_any, position_or_len}
use Rattle.std.specs.Bool.{Decides}
use Rattle.std.proofs.lemmas.Bool.{cases_lt, lt-ltb, le-ltb}
use Rattle.std.proofs.lemmas.List.{length-map, get_or-map, map-id}
use Rattle.std.proofs.lemmas.List.Sums.{passes_at_first, fails_before_first}
use Rattle.std.proofs.lemmas.Map.Made.{AllPairs-from_IsDistinct}
use Rattle.std.proofs.lemmas.Map.Keys.{apart_from_distinct}
use Rattle.std.proofs.lemmas.Option.{none-some, same_Some, slice_get-get_or}
use Rattle.indexmap.specs.IndexSet.{insert_key}
use Rattle.htn_model.specs.PlanFile.{IsIn, IsWithoutRepeats}
use Rattle.htn_model.proofs.Ascending.{at_in, in_at}

-- what was not there goes last
pub inserted_new : {K : Type 0} (eq : K → K → Bool) (ks : List K) (k : K) (b : Bool) → b ≡ not (list_any (eq k) ks) → b ≡ true → insert_key eq ks k ≡ ks ++ k ∷ []
inserted_new eq ks k b is new = by (list_any (eq k) ks) refl
  where
    by : (c : Bool) → list_any (eq k) ks ≡ c → insert_key eq ks k ≡ ks ++ k ∷ []
    by true e = absurd (true≢false (sym new ∙ is ∙ ap not e))
    by false e = ap (λ b. if b then ks else ks ++ k ∷ []) e

-- what was there changes nothing
pub inserted_old : {K : Type 0} (eq : K → K → Bool) (ks : List K) (k : K) (b : Bool) → b ≡ not (list_any (eq k) ks) → b ≡ false → insert_key eq ks k ≡ ks
inserted_old eq ks k b is old = by (list_any (eq k) ks) refl
  where
    by : (c : Bool) → list_any (eq k) ks ≡ c → insert_key eq ks k ≡ ks
    by true e = ap (λ b. if b then ks else ks ++ k ∷ []) e
    by false e = absurd (true≢false (sym (is ∙ ap not e) ∙ old))

-- what a slice gives stands within it
pub at_slice : {X : Type 0} (xs : List X) (i : ℕ) (x d : X) → slice_get xs i ≡ Some x → (i < length xs) × (get_or xs i d ≡ x)
at_slice [] i x d e = absurd (none-some x e)
at_slice (y ∷ xs) zero x d e = (omega arith, same_Some _ x e)
at_slice (y ∷ xs) (suc i) x d e = let rest = at_slice xs i x d e in (omega (arith, rest.0), rest.1)

-- equal items of a list stand at one place
abbrev pub AreApart : {X : Type 0} → X → List X → Type 0
AreApart d xs = (i j : ℕ) → i < length xs → j < length xs → get_or xs i d ≡ get_or xs j d → i ≡ j

-- a list of which the items are apart has no repeats
pub without_repeats : {X : Type 0} (d : X) (xs : List X) → AreApart d xs → IsWithoutRepeats xs
without_repeats d [] apart = tt
without_repeats d (x ∷ xs) apart = (
  (λ there.
      let found = in_at x xs there in
      let seen = at_slice xs found.0 x d found.1 in
      let e : 0 ≡ suc found.0 = apart 0 (suc found.0) (omega arith) (omega (arith, seen.0)) (sym seen.1) in
      omega (arith, e)),
  without_repeats d xs (λ i j here there alike. (let e = apart (suc i) (suc j) (omega (arith, here)) (omega (arith, there)) alike in omega (arith, e))),
)

-- the items of a list without repeats are apart
pub apart : {X : Type 0} (d : X) (xs : List X) → IsWithoutRepeats xs → AreApart d xs
apart d [] distinct i j here there alike = absurd (omega (arith, here))
apart d (x ∷ xs) distinct zero zero here there alike = refl
apart d (x ∷ xs) distinct zero (suc j) here there alike =
    absurd (distinct.0 (subst (λ y. IsIn y xs) (sym alike) (at_in (get_or xs j d) xs j (slice_get-get_or xs j d (omega (arith, there))))))
apart d (x ∷ xs) distinct (suc i) zero here there alike =
    absurd (distinct.0 (subst (λ y. IsIn y xs) alike (at_in (get_or xs i d) xs i (slice_get-get_or xs i d (omega (arith, here))))))
apart d (x ∷ xs) distinct (suc i) (suc j) here there alike = ap suc (apart d xs distinct.1 i j (omega (arith, here)) (omega (arith, there)) alike)

-- keys of which no two are equal are of distinct meaning
pub distinct_views : {K X : Type 0} (eq : K → K → Bool) (view : K → X) → ((a b : K) → Decides (eq a b) (view a ≡ view b)) → (d : K) (keys : List K) → IsDistinct eq keys
    → IsWithoutRepeats (map view keys)
distinct_views eq view same d keys distinct = without_repeats (view d) (map view keys) (λ i j here there alike.
    let long = length-map keys view in
    let i_is = get_or-map view keys i d (view d) (omega (arith, long)) in
    let j_is = get_or-map view keys j d (view d) (omega (arith, long)) in
    let views = sym i_is ∙ alike ∙ j_is in
    elim (cases_lt i j) [
      | inl less ↦ absurd (true≢false (sym ((same _ _).1 views) ∙ apart_from_distinct eq keys i j d distinct less (omega (arith, long))))
      | inr no_less ↦ elim (cases_lt j i) [
        | inl more ↦ absurd (true≢false (sym ((same _ _).1 (sym views)) ∙ apart_from_distinct eq keys j i d distinct more (omega (arith, long))))
        | inr no_more ↦ omega arith
      ]
    ])

-- so are keys that are told apart themselves
pub distinct_keys : {K : Type 0} (eq : K → K → Bool) → ((a b : K) → Decides (eq a b) (a ≡ b)) → (d : K) (keys : List K) → IsDistinct eq keys → IsWithoutRepeats keys
distinct_keys eq same d keys distinct = without_repeats d keys (λ i j here there alike.
    let apart = AllPairs-from_IsDistinct same keys distinct in
    elim (cases_lt i j) [
      | inl less ↦ absurd (apart i j d less there alike)
      | inr no_less ↦ elim (cases_lt j i) [
        | inl more ↦ absurd (apart j i d more here (sym alike))
        | inr no_more ↦ omega arith
      ]
    ])

-- what the search for a key tells of the first place where it is
place_at : {K : Type 0} (test : K → Bool) (keys : List K) (n : ℕ) → position test keys ≡ Some n → (position_or_len test keys ≡ n) × (n < length keys)
place_at test keys n is = elim (cases_lt (position_or_len test keys) (length keys)) [
  | inl less ↦
      (let here : position_or_len test keys ≡ n = same_Some _ n (sym (ap (λ b. cond b (Some (position_or_len test keys)) None) (lt-ltb (position_or_len test keys) (length keys) less)) ∙ is) in
      (here, subst (λ k. k < length keys) here less))
  | inr past ↦ absurd (none-some n (sym (ap (λ b. cond b (Some (position_or_len test keys)) None) (le-ltb (position_or_len test keys) (length keys) past)) ∙ is))
]

-- where it finds none, no place is before the end
no_place : {K : Type 0} (test : K → Bool) (keys : List K) → position test keys ≡ None → length keys ≤ position_or_len test keys
no_place test keys is = elim (cases_lt (position_or_len test keys) (length keys)) [
  | inl less ↦ absurd (none-some (position_or_len test keys) (sym is ∙ ap (λ b. cond b (Some (position_or_len test keys)) None) (lt-ltb (position_or_len test keys) (length keys) less)))
  | inr past ↦ past
]

module _ {K X : Type 0} (eq : K → K → Bool) (view : K → X) (same : (a b : K) → Decides (eq a b) (view a ≡ view b)) (d q : K) (keys : List K) where
  -- a key that was found stands for what was sought
  pub found_view : (n : ℕ) → position (eq q) keys ≡ Some n → (n < length (map view keys)) × (get_or (map view keys) n (view d) ≡ view q)
  found_view n is =
      let at = place_at (eq q) keys n is in
      let long = length-map keys view in
      let less : position_or_len (eq q) keys < length keys = subst (λ k. k < length keys) (sym at.0) at.1 in
      let meets : eq q (get_or keys n d) ≡ true = ap (λ k. eq q (get_or keys k d)) (sym at.0) ∙ passes_at_first (eq q) keys d less in (
        omega (arith, at.1),
        get_or-map view keys n d (view d) at.1 ∙ sym ((same q (get_or keys n d)).0 meets),
      )

  -- it stands nowhere before the first place
  pub first_view : (id : ℕ) → id < length (map view keys) → get_or (map view keys) id (view d) ≡ view q → position_or_len (eq q) keys ≤ id
  first_view id inside is =
      let long = length-map keys view in
      let low : id < length keys = omega arith in
      let meets : eq q (get_or keys id d) ≡ true = (same q (get_or keys id d)).1 (sym is ∙ get_or-map view keys id d (view d) low) in
      elim (cases_lt id (position_or_len (eq q) keys)) [
        | inl before ↦ absurd (true≢false (sym meets ∙ fails_before_first (eq q) keys id d before))
        | inr after ↦ after
      ]

  -- what was not found stands nowhere
  pub absent_view : position (eq q) keys ≡ None → (id : ℕ) → id < length (map view keys) → get_or (map view keys) id (view d) ≡ view q → ⊥
  absent_view is id inside at =
      let long = length-map keys view in
      let first = first_view id inside at in
      let past = no_place (eq q) keys is in
      omega arith

  -- what was found at a place stands nowhere before
  pub late_view : (n : ℕ) → position (eq q) keys ≡ Some n → (id : ℕ) → id < n → id < length (map view keys) → get_or (map view keys) id (view d) ≡ view q → ⊥
  late_view n is id before inside at =
      let place = (place_at (eq q) keys n is).0 in
      let first = first_view id inside at in
      omega arith

module _ {K : Type 0} (eq : K → K → Bool) (same : (a b : K) → Decides (eq a b) (a ≡ b)) (d q : K) (keys : List K) where
  -- a key that was found is the one that was sought
  pub found_key : (n : ℕ) → position (eq q) keys ≡ Some n → (n < length keys) × (get_or keys n d ≡ q)
  found_key n is = subst (λ ks. (n < length ks) × (get_or ks n d ≡ q)) (map-id keys) (found_view eq (λ k. k) same d q keys n is)

  -- one that was not found stands nowhere
  pub absent_key : position (eq q) keys ≡ None → (id : ℕ) → id < length keys → get_or keys id d ≡ q → ⊥
  absent_key is id inside at =
      absent_view eq (λ k. k) same d q keys is id (subst (λ ks. id < length ks) (sym (map-id keys)) inside)
      (subst (λ ks. get_or ks id d ≡ q) (sym (map-id keys)) at)

  -- one that was found at a place stands nowhere before
  pub late_key : (n : ℕ) → position (eq q) keys ≡ Some n → (id : ℕ) → id < n → id < length keys → get_or keys id d ≡ q → ⊥
  late_key n is id before inside at =
      late_view eq (λ k. k) same d q keys n is id before (subst (λ ks. id < length ks) (sym (map-id keys)) inside)
      (subst (λ ks. get_or ks id d ≡ q) (sym (map-id keys)) at)

-- what holds anyway holds where there is none
pub none_either : {A P : Type 0} (o : Option A) → P → IfNone o P
none_either None holds = holds
none_either (Some a) holds = tt
