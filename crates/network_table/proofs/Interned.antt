-- Values that are numbered.
use Rattle.std.proofs.Common.{◌≡◌, ℕ, zero, suc, ◌+◌, ◌<◌, Bool, true, false, true≢false, cond, not, ◌||◌, List, [], ◌∷◌, ◌++◌, length, get_or, Some, slice_get, All, Contains, refl, sym, ap, subst, ◌∙◌, inl, inr, arith, append_assoc, append-nil, length-append, if◌then◌else◌}
use Rattle.std.specs.List.{list_any, position_or_len}
use Rattle.std.specs.Cmp.{IsEquivalence}
use Rattle.std.proofs.lemmas.Bool.{cases_lt}
use Rattle.std.proofs.lemmas.List.{get_or_append_left, get_or_push, length_push}
use Rattle.std.proofs.lemmas.List.Elements.{All-push, Contains-append_left, Contains-push}
use Rattle.std.proofs.lemmas.List.Folds.{list_any_at}
use Rattle.indexmap.specs.IndexSet.{insert_key}
use Rattle.network_table.specs.Interning.{AreApart, HasGrown, HasInterned, IsGrownBy, IsNumberOf}

-- where none passes a test, each fails it
pub each_fails : {X : Type 0} (p : X → Bool) (xs : List X) → list_any p xs ≡ false → (k : ℕ) (d : X) → k < length xs → p (get_or xs k d) ≡ false
each_fails p xs none k d inside = by (p (get_or xs k d)) refl
  where
    by : (b : Bool) → p (get_or xs k d) ≡ b → b ≡ false
    by false is = refl
    by true is = absurd (true≢false (sym (list_any_at p xs k d inside is) ∙ none))

-- what was there is within what a list has now
pub below_grown : {X : Type 0} (old new : List X) (i : ℕ) → HasGrown old new → i < length old → i < length new
below_grown old new i grown inside = (let e = ap length grown.1 ∙ length-append old grown.0 in omega (arith, e))

-- and stands there
pub same_grown : {X : Type 0} (old new : List X) (i : ℕ) (d : X) → HasGrown old new → i < length old → get_or new i d ≡ get_or old i d
same_grown old new i d grown inside = ap (λ l. get_or l i d) grown.1 ∙ get_or_append_left old grown.0 d i inside

-- one that is equal to none of them may stand last
pub apart_more : {T : Type 0} (eq : T → T → Bool) (laws : IsEquivalence eq) (xs : List T) (x : T) → list_any (eq x) xs ≡ false → AreApart eq xs → AreApart eq (xs ++ x ∷ [])
apart_more eq laws xs x none apart m n d less h = elim (cases_lt n (length xs)) [
  | inl early ↦ (
      let low : m < length xs = omega arith in
      ap (λ v. eq v (get_or (xs ++ x ∷ []) n d)) (get_or_append_left xs (x ∷ []) d m low) ∙ ap (eq (get_or xs m d)) (get_or_append_left xs (x ∷ []) d n early) ∙ apart m n d less early)
  | inr late ↦ (
      let long = length_push xs x in
      let end : length xs ≡ n = omega (arith, long) in
      let low : m < length xs = omega arith in
      ap (λ v. eq v (get_or (xs ++ x ∷ []) n d)) (get_or_append_left xs (x ∷ []) d m low) ∙ ap (eq (get_or xs m d)) (get_or_push xs x d n end) ∙ laws.symm (get_or xs m d) x ∙ each_fails (eq x) xs none m d low)
]

-- what grew by a part of a batch grew by the batch
pub grown_by_part : {X : Type 0} (part rest batch old new : List X) → part ++ rest ≡ batch → IsGrownBy part old new → IsGrownBy batch old new
grown_by_part part rest batch old new whole grown =
    (grown.0, grown.1, λ k d low. subst (λ l. Contains l (get_or grown.0 k d)) whole (Contains-append_left part rest (get_or grown.0 k d) (grown.2 k d low)))

module _ {T : Type 0} (eq : T → T → Bool) where
  -- what is there at a place
  slice_at : (xs : List T) (i : ℕ) (k d : T) → slice_get xs i ≡ Some k → get_or xs i d ≡ k
  slice_at [] i k d is = absurd (cc)
  slice_at (x ∷ xs) zero k d is = cc
  slice_at (x ∷ xs) (suc i) k d is = slice_at xs i k d is

  -- an equal value stands there
  pub place_of : (x : T) (xs : List T) (i : ℕ) → i < length xs → (k : T) × (slice_get xs i ≡ Some k) × (eq x k ≡ true) → IsNumberOf eq xs x i
  place_of x xs i low found = (low, λ d. ap (eq x) (slice_at xs i found.0 d found.1) ∙ found.2)

  -- what is not found stands after all
  pub last_place : (x : T) (xs : List T) → not (list_any (eq x) xs) ≡ true → position_or_len (eq x) xs ≡ length xs
  last_place x [] none = refl
  last_place x (y ∷ ys) none = by (eq x y) refl (last_place x ys) none
    where
      by : (b : Bool) → eq x y ≡ b → (not (list_any (eq x) ys) ≡ true → position_or_len (eq x) ys ≡ length ys) → not (eq x y || list_any (eq x) ys) ≡ true
          → position_or_len (eq x) (y ∷ ys) ≡ suc (length ys)
      by true is rest absent = absurd (true≢false (sym absent ∙ ap (λ b. not (b || list_any (eq x) ys)) is))
      by false is rest absent =
          let e = rest (sym (ap (λ b. not (b || list_any (eq x) ys)) is) ∙ absent) in
          ap (λ b. cond (not b) (1 + position_or_len (eq x) ys) 0) is ∙ (let z : 1 + position_or_len (eq x) ys ≡ suc (length ys) = omega (arith, e) in z)

  -- an insertion takes nothing away
  pub grown_insert : (xs : List T) (x : T) → HasGrown xs (insert_key eq xs x)
  grown_insert xs x = by (list_any (eq x) xs)
    where
      by : (b : Bool) → HasGrown xs (if b then xs else xs ++ x ∷ [])
      by true = ([], sym (append-nil xs))
      by false = (x ∷ [], refl)

  -- and adds what was inserted
  pub adds_insert : (batch old new : List T) (x : T) → IsGrownBy batch old new → IsGrownBy (batch ++ x ∷ []) old (insert_key eq new x)
  adds_insert batch old new x grown = by (list_any (eq x) new)
    where
      still : All (Contains (batch ++ x ∷ [])) grown.0
      still k d low = Contains-append_left batch (x ∷ []) (get_or grown.0 k d) (grown.2 k d low)

      by : (b : Bool) → (more : List T) × ((if b then new else new ++ x ∷ []) ≡ old ++ more) × All (Contains (batch ++ x ∷ [])) more
      by true = (grown.0, grown.1, still)
      by false = (grown.0 ++ x ∷ [], ap (λ l. l ++ x ∷ []) grown.1 ∙ append_assoc old grown.0 (x ∷ []), All-push (Contains (batch ++ x ∷ [])) grown.0 x still (Contains-push batch x))

  -- what is apart stays so
  pub apart_insert : IsEquivalence eq → (xs : List T) (x : T) → AreApart eq xs → AreApart eq (insert_key eq xs x)
  apart_insert laws xs x apart = by (list_any (eq x) xs) refl
    where
      by : (b : Bool) → list_any (eq x) xs ≡ b → AreApart eq (if b then xs else xs ++ x ∷ [])
      by true is = apart
      by false is = apart_more eq laws xs x is apart

  -- nothing was taken of nothing
  pub interned_none : (old : List T) → HasInterned eq [] old old []
  interned_none old = record {
    grown = ([], sym (append-nil old), λ k d low. absurd (omega arith));
    numbers_are = (refl, λ i d low. absurd (omega arith));
  }

  -- a value more was taken
  pub interned_more : (batch old new : List T) (taken : List ℕ) (x : T) (i : ℕ) → IsNumberOf eq (insert_key eq new x) x i → HasInterned eq batch old new taken
      → HasInterned eq (batch ++ x ∷ []) old (insert_key eq new x) (taken ++ i ∷ [])
  interned_more batch old new taken x i place so = record {
    grown = adds_insert batch old new x so.grown;
    numbers_are = (
      (let e = so.numbers_are.0 in omega (arith, e, length_push taken i, length_push batch x)),
      λ n d low. elim (cases_lt n (length batch)) [
        | inl early ↦ (
            let long : length taken ≡ length batch = so.numbers_are.0 in
            let was = so.numbers_are.1 n d early in
            let at : n < length taken = omega (arith, long) in
            let number = get_or_append_left taken (i ∷ []) 0 n at in
            let value = get_or_append_left batch (x ∷ []) d n early in
            let grown = grown_insert new x in (
              subst (λ m. m < length (insert_key eq new x)) (sym number) (below_grown new (insert_key eq new x) (get_or taken n 0) grown was.0),
              λ e. ap (λ v. eq v (get_or (insert_key eq new x) (get_or (taken ++ i ∷ []) n 0) e)) value
                  ∙ ap (λ m. eq (get_or batch n d) (get_or (insert_key eq new x) m e)) number
                  ∙ ap (eq (get_or batch n d)) (same_grown new (insert_key eq new x) (get_or taken n 0) e grown was.0) ∙ was.1 e,
            ))
        | inr late ↦ (
            let long : length taken ≡ length batch = so.numbers_are.0 in
            let more = length_push batch x in
            let end : length batch ≡ n = omega (arith, more) in
            let at : length taken ≡ n = omega (arith, long, end) in
            let number = get_or_push taken i 0 n at in
            let value = get_or_push batch x d n end in (
              subst (λ m. m < length (insert_key eq new x)) (sym number) place.0,
              λ e. ap (λ v. eq v (get_or (insert_key eq new x) (get_or (taken ++ i ∷ []) n 0) e)) value
                  ∙ ap (λ m. eq x (get_or (insert_key eq new x) m e)) number ∙ place.1 e,
            ))
      ],
    );
  }
