-- Places in a list of keys, which grows at its end.
use Rattle.std.proofs.Common.{◌≡◌, ℕ, zero, suc, ◌<◌, ◌^◌, Bool, true, false, cond, ◌⊎◌, inl, inr, List, [], ◌∷◌, ◌++◌, Some, None, Option, length, slice_get, get_or, refl, sym, ap, subst, ◌∙◌, arith}
use Rattle.std.specs.Prelude.{position, if◌then◌else◌, IfNone}
use Rattle.std.specs.List.{list_any, position_or_len}
use Rattle.std.specs.Bool.{Decides}
use Rattle.std.proofs.lemmas.List.{append-nil, length_push}
use Rattle.std.proofs.lemmas.Bool.{cases_lt, lt-ltb, le-ltb, true≢false}
use Rattle.std.proofs.lemmas.Option.{slice_get_within, slice_get-get_or, get_or_from_slice_get}
use Rattle.std.proofs.lemmas.List.Folds.{list_any_none}
use Rattle.std.proofs.lemmas.Map.Keys.{any_passes_from_place}
use Rattle.std.proofs.lemmas.List.Sums.{passes_at_first, fails_before_first}
use Rattle.htn_model.specs.PlanFile.{IsIn, IsWithoutRepeats}
use Rattle.htn_model.proofs.Ascending.{at_in, in_at}
use Rattle.htn_model.proofs.Rearranged.{distinct_with}
use Rattle.state_table.specs.Numberings.{IsNumbering}
use Rattle.indexmap.specs.IndexSet.{insert_key}

-- equal where there is one
pub some_same : {A : Type 0} (x y : A) → Some x ≡ Some y → x ≡ y
some_same x y e = cc

-- none is not one
none_some : {A : Type 0} (x : A) → None ≡ Some x → ⊥
none_some x e = cc

-- what is not true is false
pub not_true : (b : Bool) → (b ≡ true → ⊥) → b ≡ false
not_true true h = absurd (h refl)
not_true false h = refl

-- what has a place keeps it in a longer list
pub slice_get-append : {A : Type 0} (xs ys : List A) (k : ℕ) (a : A) → slice_get xs k ≡ Some a → slice_get (xs ++ ys) k ≡ Some a
slice_get-append [] ys k a at = cc
slice_get-append (x ∷ xs) ys zero a at = at
slice_get-append (x ∷ xs) ys (suc k) a at = slice_get-append xs ys k a at

-- what stands in a list with one more stood there, or is the new one at the end
pub at_push : {A : Type 0} (xs : List A) (q : A) (k : ℕ) (a : A) → slice_get (xs ++ q ∷ []) k ≡ Some a → (slice_get xs k ≡ Some a) ⊎ ((k ≡ length xs) × (q ≡ a))
at_push [] q zero a at = inr (refl, some_same q a at)
at_push [] q (suc k) a at = cc
at_push (x ∷ xs) q zero a at = inl at
at_push (x ∷ xs) q (suc k) a at = elim (at_push xs q k a at) [
  | inl before ↦ inl before
  | inr here ↦ inr (ap suc here.0, here.1)
]

-- the one that was put at the end stands there
pub at_end : {A : Type 0} (xs : List A) (q : A) → slice_get (xs ++ q ∷ []) (length xs) ≡ Some q
at_end [] q = refl
at_end (x ∷ xs) q = at_end xs q

-- what holds at none holds where there is not one
pub if_none : {P : Type 0} (r : Option ℕ) → IfNone r P → ((n : ℕ) → r ≡ Some n → ⊥) → P
if_none None holds none = holds
if_none (Some n) holds none = absurd (none n refl)

-- what holds anyway holds at none
pub none_anyway : {P : Type 0} (r : Option ℕ) → P → IfNone r P
none_anyway None holds = holds
none_anyway (Some n) holds = tt

-- a member of a list without repeats has one place
pub one_place : {A : Type 0} (xs : List A) → IsWithoutRepeats xs → (i j : ℕ) (a : A) → slice_get xs i ≡ Some a → slice_get xs j ≡ Some a → i ≡ j
one_place [] distinct i j a one two = cc
one_place (x ∷ xs) distinct zero zero a one two = refl
one_place (x ∷ xs) distinct zero (suc j) a one two = absurd (distinct.0 (subst (λ y. IsIn y xs) (sym (some_same x a one)) (at_in a xs j two)))
one_place (x ∷ xs) distinct (suc i) zero a one two = absurd (distinct.0 (subst (λ y. IsIn y xs) (sym (some_same x a two)) (at_in a xs i one)))
one_place (x ∷ xs) distinct (suc i) (suc j) a one two = ap suc (one_place xs distinct.1 i j a one two)

-- nothing has a number
pub numbering_none : {A : Type 0} → IsNumbering {A = A} []
numbering_none = record { distinct = tt; few = omega arith }

-- what has no number gets the next one
pub numbering_push : {A : Type 0} (xs : List A) (q : A) → IsNumbering xs → length xs < 2 ^ 32 → ((n : ℕ) → slice_get xs n ≡ Some q → ⊥) → IsNumbering (xs ++ q ∷ [])
numbering_push xs q numbering room none = record {
  distinct = distinct_with q xs [] (subst IsWithoutRepeats (sym (append-nil xs)) numbering.distinct)
      (λ there. (let found = in_at q xs (subst (IsIn q) (append-nil xs) there) in none found.0 found.1));
  few = omega (arith, room, length_push xs q);
}

module _ {A : Type 0} (eq : A → A → Bool) (decides : (x y : A) → Decides (eq x y) (x ≡ y)) (q : A) (xs : List A) where
  -- a key that was found
  pub found : (n : ℕ) → position (eq q) xs ≡ Some n → slice_get xs n ≡ Some q
  found n is = elim (cases_lt (position_or_len (eq q) xs) (length xs)) [
    | inl less ↦
        (let here : position_or_len (eq q) xs ≡ n = some_same _ n (sym (ap (λ b. cond b (Some (position_or_len (eq q) xs)) None) (lt-ltb (position_or_len (eq q) xs) (length xs) less)) ∙ is) in
        ap (slice_get xs) (sym here) ∙ slice_get-get_or xs (position_or_len (eq q) xs) q less
        ∙ ap Some (sym ((decides q (get_or xs (position_or_len (eq q) xs) q)).0 (passes_at_first (eq q) xs q less))))
    | inr past ↦ absurd (none_some n (sym (ap (λ b. cond b (Some (position_or_len (eq q) xs)) None) (le-ltb (position_or_len (eq q) xs) (length xs) past)) ∙ is))
  ]

  -- and one that was not
  pub absent : position (eq q) xs ≡ None → (n : ℕ) → slice_get xs n ≡ Some q → ⊥
  absent is n at =
      let there : eq q (get_or xs n q) ≡ true = (decides q (get_or xs n q)).1 (sym (get_or_from_slice_get xs n q q at)) in
      let within = slice_get_within xs n q at in
      elim (cases_lt n (position_or_len (eq q) xs)) [
        | inl before ↦ true≢false (sym there ∙ fails_before_first (eq q) xs n q before)
        | inr after ↦
            (let less : position_or_len (eq q) xs < length xs = omega (arith, after, within) in
            none_some (position_or_len (eq q) xs) (sym is ∙ ap (λ b. cond b (Some (position_or_len (eq q) xs)) None) (lt-ltb (position_or_len (eq q) xs) (length xs) less)))
      ]

  -- no key is equal to one that has no place
  pub not_any : ((n : ℕ) → slice_get xs n ≡ Some q → ⊥) → list_any (eq q) xs ≡ false
  not_any none = list_any_none (eq q) xs (λ k d below. not_true (eq q (get_or xs k d)) (λ e. none k (slice_get-get_or xs k d below ∙ ap Some (sym ((decides q (get_or xs k d)).0 e)))))

  -- a new key goes last
  pub inserted : ((n : ℕ) → slice_get xs n ≡ Some q → ⊥) → insert_key eq xs q ≡ xs ++ q ∷ []
  inserted none = ap (λ b. if b then xs else xs ++ q ∷ []) (not_any none)

  -- a key that is equal to none has no place
  pub none_at : list_any (eq q) xs ≡ false → (n : ℕ) → slice_get xs n ≡ Some q → ⊥
  none_at is n at = true≢false (sym (any_passes_from_place (eq q) xs n q at ((decides q q).1 refl)) ∙ is)

  -- a key that is put among others was there, or has no place and goes last
  pub inserted_cases : (insert_key eq xs q ≡ xs) ⊎ ((insert_key eq xs q ≡ xs ++ q ∷ []) × ((n : ℕ) → slice_get xs n ≡ Some q → ⊥))
  inserted_cases = by (list_any (eq q) xs) refl
    where
      by : (b : Bool) → list_any (eq q) xs ≡ b → (insert_key eq xs q ≡ xs) ⊎ ((insert_key eq xs q ≡ xs ++ q ∷ []) × ((n : ℕ) → slice_get xs n ≡ Some q → ⊥))
      by true is = inl (ap (λ b. if b then xs else xs ++ q ∷ []) is)
      by false is = inr (ap (λ b. if b then xs else xs ++ q ∷ []) is, none_at is)

  -- where there is a number left, all have one still
  pub numbering_inserted : IsNumbering xs → length xs < 2 ^ 32 → IsNumbering (insert_key eq xs q)
  numbering_inserted numbering room = elim inserted_cases [
    | inl same ↦ subst (λ (l : List A). IsNumbering l) (sym same) numbering
    | inr new ↦ subst (λ (l : List A). IsNumbering l) (sym new.0) (numbering_push xs q numbering room new.1)
  ]

  -- nothing else has got a place
  pub others_inserted : (n : ℕ) (a : A) → slice_get (insert_key eq xs q) n ≡ Some a → (slice_get xs n ≡ Some a) ⊎ (a ≡ q)
  others_inserted n a at = elim inserted_cases [
    | inl same ↦ inl (ap (λ (l : List A). slice_get l n) (sym same) ∙ at)
    | inr new ↦ elim (at_push xs q n a (ap (λ (l : List A). slice_get l n) (sym new.0) ∙ at)) [
      | inl before ↦ inl before
      | inr here ↦ inr (sym here.1)
    ]
  ]
