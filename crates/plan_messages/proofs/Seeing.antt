-- What is seen of numbers with one place more.
use Rattle.std.proofs.Common.{◌≡◌, ◌∙◌, ℕ, zero, suc, ◌==◌, ◌<◌, Bool, true, false, List, [], ◌∷◌, ◌++◌, Option, ap, arith, get_or, inl, inr, length, nat_eq, refl, set, subst, sym, take}
use Rattle.std.specs.List.{list_any}
use Rattle.std.proofs.lemmas.Bool.{cases_Bool, eq-eqb, eqb-true}
use Rattle.htn_model.proofs.Ascending.{any_in}
use Rattle.htn_model.specs.PlanFile.{IsIn, IsWithoutRepeats}
use Rattle.plan_messages.specs.Sightings.{places_of, seen_again, seen_of, sighting_of}
use Rattle.plan_messages.specs.declared.mentions.Mention.{Mention}
use Rattle.plan_messages.specs.declared.sighting.Sighting.{Sighting}

-- one place more
pub seen_more : (places : List ℕ) (place : ℕ) → sighting_of (places ++ place ∷ []) ≡ seen_again (sighting_of places) place
seen_more [] place = refl
seen_more (x ∷ []) place = refl
seen_more (x ∷ y ∷ places) place = refl

-- the place of a mention more, if it has the number
pub places_same : (id : ℕ) (before : List Mention) (m : Mention) → (m.id == id) ≡ true → places_of id (before ++ m ∷ []) ≡ places_of id before ++ m.place ∷ []
places_same id [] m is = rw is refl
places_same id (b ∷ before) m is = elim (cases_Bool (b.id == id)) [
  | inl one ↦ rw one (ap (λ l. b.place ∷ l) (places_same id before m is))
  | inr other ↦ rw other (places_same id before m is)
]

pub places_other : (id : ℕ) (before : List Mention) (m : Mention) → (m.id == id) ≡ false → places_of id (before ++ m ∷ []) ≡ places_of id before
places_other id [] m is = rw is refl
places_other id (b ∷ before) m is = elim (cases_Bool (b.id == id)) [
  | inl one ↦ rw one (ap (λ l. b.place ∷ l) (places_other id before m is))
  | inr other ↦ rw other (places_other id before m is)
]

-- what stands at a place is in a list
there : (xs : List ℕ) (k : ℕ) → k < length xs → IsIn (get_or xs k 0) xs
there [] k less = absurd (omega arith)
there (x ∷ xs) zero less = inl refl
there (x ∷ xs) (suc k) less = inr (there xs k (omega arith))

is_other : (b : Bool) → (b ≡ true → ⊥) → b ≡ false
is_other true n = absurd (n refl)
is_other false n = refl

-- a number that a test doesn't find
pub not_found : (x : ℕ) (xs : List ℕ) → list_any (nat_eq x) xs ≡ false → IsIn x xs → ⊥
not_found x xs h i = let f = any_in (nat_eq x) x xs i (eq-eqb x x refl) in absurd cc

module _ (before : List Mention) (m : Mention) where
  -- a number that others are not
  pub seen_else : (ids : List ℕ) → (IsIn m.id ids → ⊥) → seen_of ids (before ++ m ∷ []) ≡ seen_of ids before
  seen_else [] out = refl
  seen_else (x ∷ ids) out = elim (cases_Bool (m.id == x)) [
    | inl one ↦ absurd (out (inl (eqb-true m.id x one)))
    | inr other ↦ rw (places_other x before m other) (ap (λ l. sighting_of (places_of x before) ∷ l) (seen_else ids (λ i. out (inr i))))
  ]

  -- one that they have once
  pub seen_some : (ids : List ℕ) (n : ℕ) (d : Option Sighting) → IsWithoutRepeats ids → n < length ids → get_or ids n 0 ≡ m.id
      → seen_of ids (before ++ m ∷ []) ≡ set (seen_of ids before) n (seen_again (get_or (seen_of ids before) n d) m.place)
  seen_some [] n d once less is = absurd (omega arith)
  seen_some (x ∷ ids) zero d once less is =
      let out : IsIn m.id ids → ⊥ = λ i. once.0 (subst (λ y. IsIn y ids) (sym is) i) in
      let head : sighting_of (places_of x (before ++ m ∷ [])) ≡ seen_again (sighting_of (places_of x before)) m.place =
      ap sighting_of (places_same x before m (eq-eqb m.id x (sym is))) ∙ seen_more (places_of x before) m.place in
      ap (λ o. o ∷ seen_of ids (before ++ m ∷ [])) head ∙ ap (λ l. seen_again (sighting_of (places_of x before)) m.place ∷ l) (seen_else ids out)
  seen_some (x ∷ ids) (suc n) d once less is =
      let out : (m.id == x) ≡ false = is_other (m.id == x) (λ one. once.0 (subst (λ y. IsIn y ids) (is ∙ eqb-true m.id x one) (there ids n (omega arith)))) in
      ap (λ o. o ∷ seen_of ids (before ++ m ∷ [])) (ap sighting_of (places_other x before m out))
      ∙ ap (λ l. sighting_of (places_of x before) ∷ l) (seen_some ids n d once.1 (omega arith) is)

-- the next of different numbers is none of those before
pub fresh : (ids : List ℕ) (i : ℕ) → IsWithoutRepeats ids → i < length ids → list_any (nat_eq (get_or ids i 0)) (take i ids) ≡ false
fresh [] i once less = absurd (omega arith)
fresh (y ∷ ids) zero once less = refl
fresh (y ∷ ids) (suc i) once less = elim (cases_Bool (nat_eq (get_or ids i 0) y)) [
  | inl one ↦ absurd (once.0 (subst (λ z. IsIn z ids) (eqb-true (get_or ids i 0) y one) (there ids i (omega arith))))
  | inr other ↦ rw other (fresh ids i once.1 (omega arith))
]
