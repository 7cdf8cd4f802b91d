-- Lists that grow without repeats.
use Rattle.std.proofs.Common.{◌≡◌, ℕ, zero, suc, ◌+◌, ◌<◌, Bool, true, false, not, List, [], ◌∷◌, ◌++◌, length, take, drop, get_or, nat_eq, if◌then◌else◌, inl, inr, sym, refl, ap, ◌∙◌, subst, append-nil, append_assoc, arith}
use Rattle.std.specs.List.{list_any, flat_map}
use Rattle.std.proofs.lemmas.List.{take_more, drop_more, take-append-drop}
use Rattle.std.proofs.lemmas.Grind.{flat_map-append}
use Rattle.std.proofs.lemmas.Bool.{eqb-true, eq-eqb}
use Rattle.indexmap.specs.IndexSet.{insert_key}
use Rattle.htn_model.specs.PlanFile.{IsIn, IsWithoutRepeats}
use Rattle.htn_model.proofs.Ascending.{any_some, any_in}
use Rattle.htn_model.proofs.Rearranged.{distinct_with, distinct_left, distinct_apart}
use Rattle.plan_text.specs.Numbers.{AreNew}

-- a number is among others where a test for it finds one
pub found_in : (x : ℕ) (xs : List ℕ) → list_any (nat_eq x) xs ≡ true → IsIn x xs
found_in x xs h = let (y, i, e) = any_some (nat_eq x) xs h in subst (λ z. IsIn z xs) (sym (eqb-true x y e)) i

-- and is not where it finds none
pub not_found : (x : ℕ) (xs : List ℕ) → list_any (nat_eq x) xs ≡ false → IsIn x xs → ⊥
not_found x xs h i = let f = any_in (nat_eq x) x xs i (eq-eqb x x refl) in absurd cc

-- one number more
pub one_added : (x : ℕ) (before after : List ℕ) (b : Bool) → IsWithoutRepeats before → b ≡ not (list_any (nat_eq x) before)
    → after ≡ insert_key nat_eq before x → AreNew before after (x ∷ []) b
one_added x before after b once added keys = by (list_any (nat_eq x) before) b refl added keys
  where
    by : (found b : Bool) → list_any (nat_eq x) before ≡ found → b ≡ not found → after ≡ (if found then before else before ++ x ∷ [])
        → AreNew before after (x ∷ []) b
    by true true f e k = absurd cc
    by true false f e k = λ d. distinct_apart x before (x ∷ []) d (found_in x before f) (inl refl)
    by false true f e k = (
      k,
      subst IsWithoutRepeats (sym k)
          (distinct_with x before [] (subst IsWithoutRepeats (sym (append-nil before)) once) (λ i. not_found x before f (subst (IsIn x) (append-nil before) i))),
    )
    by false false f e k = absurd cc

module _ {X : Type 0} (f : X → List ℕ) where
  -- what one more element gives comes last
  pub flat_more : (lines : List X) (i : ℕ) (d : X) → i < length lines → flat_map f (take (i + 1) lines) ≡ flat_map f (take i lines) ++ f (get_or lines i d)
  flat_more lines i d h =
      ap (flat_map f) (take_more lines i d h) ∙ flat_map-append f (take i lines) (get_or lines i d ∷ [])
      ∙ ap (λ ys. flat_map f (take i lines) ++ ys) (append-nil (f (get_or lines i d)))

  -- the whole is what the first elements give, then the next, and the rest
  flat_parts : (before : List ℕ) (lines : List X) (i : ℕ) (d : X) → i < length lines
      → before ++ flat_map f lines ≡ ((before ++ flat_map f (take i lines)) ++ f (get_or lines i d)) ++ flat_map f (drop (i + 1) lines)
  flat_parts before lines i d h =
      let whole : flat_map f lines ≡ flat_map f (take i lines) ++ (f (get_or lines i d) ++ flat_map f (drop (i + 1) lines)) =
      ap (flat_map f) (sym (take-append-drop i lines) ∙ ap (λ ys. take i lines ++ ys) (drop_more lines i d h))
      ∙ flat_map-append f (take i lines) (get_or lines i d ∷ drop (i + 1) lines) in
      ap (λ ys. before ++ ys) whole ∙ sym (append_assoc before (flat_map f (take i lines)) (f (get_or lines i d) ++ flat_map f (drop (i + 1) lines)))
      ∙ sym (append_assoc (before ++ flat_map f (take i lines)) (f (get_or lines i d)) (flat_map f (drop (i + 1) lines)))

  -- a repeat among the first elements and the next is one of the whole
  pub repeated : (before : List ℕ) (lines : List X) (i : ℕ) (d : X) → i < length lines
      → (IsWithoutRepeats ((before ++ flat_map f (take i lines)) ++ f (get_or lines i d)) → ⊥) → IsWithoutRepeats (before ++ flat_map f lines) → ⊥
  repeated before lines i d h none d0 = none (distinct_left _ (flat_map f (drop (i + 1) lines)) (subst IsWithoutRepeats (flat_parts before lines i d h) d0))

  -- the next element's are new after those of the first ones
  pub one_more : (before here after : List ℕ) (lines : List X) (i : ℕ) (d : X) → i < length lines → here ≡ before ++ flat_map f (take i lines)
      → after ≡ here ++ f (get_or lines i d) → after ≡ before ++ flat_map f (take (i + 1) lines)
  one_more before here after lines i d h is e =
      e ∙ ap (λ ys. ys ++ f (get_or lines i d)) is ∙ append_assoc before (flat_map f (take i lines)) (f (get_or lines i d))
      ∙ ap (λ ys. before ++ ys) (sym (flat_more lines i d h))

  -- where the next element's aren't new there is a repeat
  pub refused : (before here after ids : List ℕ) (lines : List X) (i : ℕ) (d : X) (b : Bool) → i < length lines → here ≡ before ++ flat_map f (take i lines)
      → ids ≡ f (get_or lines i d) → b ≡ false → AreNew here after ids b → IsWithoutRepeats (before ++ flat_map f lines) → ⊥
  refused before here after ids lines i d b h is these wrong new d0 =
      let none : IsWithoutRepeats (here ++ ids) → ⊥ = subst (AreNew here after ids) wrong new in
      repeated before lines i d h (λ e. none (subst (λ xs. IsWithoutRepeats xs) (ap (λ xs. xs ++ f (get_or lines i d)) (sym is) ∙ ap (λ ys. here ++ ys) (sym these)) e)) d0

-- a list as what its elements give
pub singles : (xs : List ℕ) → flat_map (λ x. x ∷ []) xs ≡ xs
singles [] = refl
singles (x ∷ xs) = ap (λ ys. x ∷ ys) (singles xs)

-- what stands below the end is among them
pub get_in : (xs : List ℕ) (i d : ℕ) → i < length xs → IsIn (get_or xs i d) xs
get_in [] i d h = absurd (omega arith)
get_in (x ∷ xs) zero d h = inl refl
get_in (x ∷ xs) (suc i) d h = inr (get_in xs i d (omega arith))

-- where the first of two lists has a repeat, so have both
pub refused_left : (before after xs ys : List ℕ) (b : Bool) → before ≡ [] → b ≡ false → AreNew before after xs b → IsWithoutRepeats (xs ++ ys) → ⊥
refused_left before after xs ys b empty wrong new d =
    let none : IsWithoutRepeats (before ++ xs) → ⊥ = subst (AreNew before after xs) wrong new in
    none (subst (λ zs. IsWithoutRepeats (zs ++ xs)) (sym empty) (distinct_left xs ys d))
