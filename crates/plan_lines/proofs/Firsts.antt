-- The first in a list that has a property, as a search comes to it.
use Rattle.std.proofs.Common.{◌≡◌, ◌↔◌, ◌⊎◌, ℕ, ◌+◌, ◌<◌, ◌≤◌, List, length, Option, Some, slice_get, IsTrue, true, false, refl, inl, inr, subst, arith}
use Rattle.std.proofs.lemmas.Bool.{cases_lt}
use Rattle.plan_lines.specs.First.{HasNone, HasNoneBefore}

-- one option holds one value
pub same_one : {X : Type 0} (o : Option X) (x y : X) → o ≡ Some x → o ≡ Some y → x ≡ y
same_one o x y e f = cc

-- none of no members has the property
pub none_yet : {X : Type 0} (Has : X → Type 0) (xs : List X) → HasNoneBefore Has xs 0
none_yet Has xs k x low at has = absurd (omega (arith, low))

-- nor of one more, where that hasn't
pub none_more : {X : Type 0} (Has : X → Type 0) (xs : List X) (i : ℕ) (one : X) → HasNoneBefore Has xs i → slice_get xs i ≡ Some one → (Has one → ⊥) → HasNoneBefore Has xs (i + 1)
none_more Has xs i one before at not k x low here has = by (cases_lt k i)
  where
    by : (k < i) ⊎ (i ≤ k) → ⊥
    by (inl less) = before k x less here has
    by (inr most) =
        let same : k ≡ i = omega (arith, most, low) in
        not (subst Has (same_one (slice_get xs i) x one (subst (λ j. slice_get xs j ≡ Some x) same here) at) has)

-- nor of all, where none of as many has
pub none_all : {X : Type 0} (Has : X → Type 0) (xs : List X) (i : ℕ) → length xs ≤ i → HasNoneBefore Has xs i → HasNone Has xs
none_all Has xs i most before k x low at has = before k x (omega (arith, most, low)) at has

-- what isn't so is not told so
pub is_not : {X : Type 0} → (X → ⊥) → IsTrue false ↔ X
is_not none = ((λ h. absurd cc), (λ x. absurd (none x)))

-- and what is so is
pub is_so : {X : Type 0} → X → IsTrue true ↔ X
is_so x = ((λ h. x), (λ y. refl))
