-- The number of an instance is a place where it stands.
use Rattle.std.proofs.Common.{◌≡◌, ℕ, zero, suc, ◌+◌, ◌<◌, Bool, true, false, not, cond, true≢false, List, [], ◌∷◌, length, Some, slice_get, refl, sym, ap, ◌∙◌, arith}
use Rattle.std.proofs.lemmas.Option.{none-some, same_Some}
use Rattle.std.specs.List.{position_or_len}
use Rattle.htn_model.specs.Equality.{instance_eq-decides}
use Rattle.htn_model.specs.Instance.{Instance, instance_eq}

module _ (i : Instance) where
  -- the place that is told for the instance
  abbrev place : List Instance → ℕ
  place xs = position_or_len (instance_eq i) xs

  -- an instance that isn't the first stands one place later
  later : (x : Instance) (xs : List Instance) → instance_eq i x ≡ false → place (x ∷ xs) ≡ suc (place xs)
  later x xs other = let e = ap (λ b. cond (not b) (1 + place xs) 0) other in omega (arith, e)

  -- one that is the first stands there
  here : (x : Instance) (xs : List Instance) → instance_eq i x ≡ true → place (x ∷ xs) ≡ 0
  here x xs same = ap (λ b. cond (not b) (1 + place xs) 0) same

  -- it stands at its place, if it stands anywhere
  pub stands_at_place : (xs : List Instance) (n : ℕ) → slice_get xs n ≡ Some i → slice_get xs (place xs) ≡ Some i
  stands_at_place [] n at = absurd (none-some i at)
  stands_at_place (x ∷ xs) n at = by (instance_eq i x) refl n at (λ k found. stands_at_place xs k found)
    where
      by : (b : Bool) → instance_eq i x ≡ b → (n : ℕ) → slice_get (x ∷ xs) n ≡ Some i → ((k : ℕ) → slice_get xs k ≡ Some i → slice_get xs (place xs) ≡ Some i)
          → slice_get (x ∷ xs) (place (x ∷ xs)) ≡ Some i
      by true same n at behind = ap (slice_get (x ∷ xs)) (here x xs same) ∙ ap Some (sym ((instance_eq-decides i x).0 same))
      by false other zero at behind = absurd (true≢false (sym ((instance_eq-decides i x).1 (sym (same_Some x i at))) ∙ other))
      by false other (suc k) at behind = ap (slice_get (x ∷ xs)) (later x xs other) ∙ behind k at

  -- and it does, if its place is within the list
  pub stands_within : (xs : List Instance) → place xs < length xs → slice_get xs (place xs) ≡ Some i
  stands_within [] low = absurd (omega arith)
  stands_within (x ∷ xs) low = by (instance_eq i x) refl low (λ h. stands_within xs h)
    where
      by : (b : Bool) → instance_eq i x ≡ b → place (x ∷ xs) < suc (length xs) → (place xs < length xs → slice_get xs (place xs) ≡ Some i)
          → slice_get (x ∷ xs) (place (x ∷ xs)) ≡ Some i
      by true same low behind = ap (slice_get (x ∷ xs)) (here x xs same) ∙ ap Some (sym ((instance_eq-decides i x).0 same))
      by false other low behind = let e = later x xs other in ap (slice_get (x ∷ xs)) e ∙ behind (omega (arith, e, low))
