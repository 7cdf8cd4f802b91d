-- Lists in which nothing stands twice.
use Rattle.std.proofs.Common.{◌≡◌, ℕ, zero, suc, ◌+◌, ◌≤◌, ◌⊎◌, Bool, true, false, cond, List, [], ◌∷◌, ◌++◌, map, filter, slice_get, Some, refl, sym, ap, subst, inl, inr, arith}
use Rattle.std.specs.List.{flat_map, enumerate_from}
use Rattle.std.proofs.lemmas.Option.{none-some, same_Some}

module _ {X : Type 0} where
  -- it stands somewhere in the list
  abbrev pub In : X → List X → Type 0
  In x [] = ⊥
  In x (y ∷ ys) = (y ≡ x) ⊎ In x ys

  -- nothing stands in it twice
  abbrev pub Once : List X → Type 0
  Once [] = Unit {0}
  Once (x ∷ xs) = (In x xs → ⊥) × Once xs

  -- the member at a position is in the list
  pub In-at : (xs : List X) (i : ℕ) (x : X) → slice_get xs i ≡ Some x → In x xs
  In-at [] i x at = absurd (none-some x at)
  In-at (y ∷ xs) zero x at = inl (same_Some y x at)
  In-at (y ∷ xs) (suc i) x at = inr (In-at xs i x at)

  -- a member stands at some position
  pub at-In : (xs : List X) (x : X) → In x xs → (i : ℕ) × (slice_get xs i ≡ Some x)
  at-In [] x inside = absurd inside
  at-In (y ∷ xs) x inside = elim inside [ inl here ↦ (0, ap Some here) | inr later ↦ (let at = at-In xs x later in (suc at.0, at.1)) ]

  -- what stands at two places stands at one
  pub one_place : (xs : List X) → Once xs → (i j : ℕ) (x : X) → slice_get xs i ≡ Some x → slice_get xs j ≡ Some x → i ≡ j
  one_place [] once i j x p q = absurd (none-some x p)
  one_place (y ∷ xs) once zero zero x p q = refl
  one_place (y ∷ xs) once zero (suc j) x p q = absurd (once.0 (subst (λ z. In z xs) (sym (same_Some y x p)) (In-at xs j x q)))
  one_place (y ∷ xs) once (suc i) zero x p q = absurd (once.0 (subst (λ z. In z xs) (sym (same_Some y x q)) (In-at xs i x p)))
  one_place (y ∷ xs) once (suc i) (suc j) x p q = ap suc (one_place xs once.1 i j x p q)

  -- a member of two lists is one of the first or of the second
  In-append : (xs ys : List X) (x : X) → In x (xs ++ ys) → In x xs ⊎ In x ys
  In-append [] ys x inside = inr inside
  In-append (y ∷ xs) ys x inside =
      elim inside [ inl here ↦ inl (inl here) | inr later ↦ elim (In-append xs ys x later) [ inl left ↦ inl (inr left) | inr right ↦ inr right ] ]

  -- nothing stands twice in two lists that have nothing in common
  Once-append : (xs ys : List X) → Once xs → Once ys → ((x : X) → In x xs → In x ys → ⊥) → Once (xs ++ ys)
  Once-append [] ys p q apart = q
  Once-append (x ∷ xs) ys p q apart = (
    (λ inside. elim (In-append xs ys x inside) [ inl left ↦ p.0 left | inr right ↦ apart x (inl refl) right ]),
    Once-append xs ys p.1 q (λ y left right. apart y (inr left) right),
  )

  -- what passes a test was there
  pub In-filter : (keeps : X → Bool) (xs : List X) (x : X) → In x (filter keeps xs) → In x xs
  In-filter keeps [] x inside = inside
  In-filter keeps (y ∷ xs) x inside = by (keeps y) (In-filter keeps xs x) inside
    where
      by : (b : Bool) → (In x (filter keeps xs) → In x xs) → In x (cond b (y ∷ filter keeps xs) (filter keeps xs)) → In x (y ∷ xs)
      by true rest there = elim there [ inl here ↦ inl here | inr later ↦ inr (rest later) ]
      by false rest there = inr (rest there)

  -- nothing stands twice among what passes
  pub Once-filter : (keeps : X → Bool) (xs : List X) → Once xs → Once (filter keeps xs)
  Once-filter keeps [] once = once
  Once-filter keeps (y ∷ xs) once = by (keeps y) (Once-filter keeps xs once.1)
    where
      by : (b : Bool) → Once (filter keeps xs) → Once (cond b (y ∷ filter keeps xs) (filter keeps xs))
      by true rest = ((λ inside. once.0 (In-filter keeps xs y inside)), rest)
      by false rest = rest

module _ {X Y : Type 0} where
  -- an image is that of a member
  pub In-map : (f : X → Y) (xs : List X) (y : Y) → In y (map f xs) → (x : X) × In x xs × (f x ≡ y)
  In-map f [] y inside = absurd inside
  In-map f (x ∷ xs) y inside = elim inside [ inl here ↦ (x, inl refl, here) | inr later ↦ (let at = In-map f xs y later in (at.0, inr at.1, at.2)) ]

  -- no image stands twice where different members have different ones
  pub Once-map : (f : X → Y) → ((x z : X) → f x ≡ f z → x ≡ z) → (xs : List X) → Once xs → Once (map f xs)
  Once-map f one [] once = once
  Once-map f one (x ∷ xs) once = (
    (λ inside. (let at = In-map f xs (f x) inside in once.0 (subst (λ z. In z xs) (one at.0 x at.2) at.1))),
    Once-map f one xs once.1,
  )

  -- a member of lists in turn is one of some list
  pub In-flat_map : (f : X → List Y) (xs : List X) (y : Y) → In y (flat_map f xs) → (x : X) × In x xs × In y (f x)
  In-flat_map f [] y inside = absurd inside
  In-flat_map f (x ∷ xs) y inside =
      elim (In-append (f x) (flat_map f xs) y inside) [
        | inl left ↦ (x, inl refl, left)
        | inr right ↦ (let at = In-flat_map f xs y right in (at.0, inr at.1, at.2))
      ]

  -- nothing stands twice in lists in turn of which no two have anything in common
  pub Once-flat_map : (f : X → List Y) → ((x : X) → Once (f x)) → ((x z : X) (y : Y) → In y (f x) → In y (f z) → x ≡ z) → (xs : List X) → Once xs → Once (flat_map f xs)
  Once-flat_map f each apart [] once = tt
  Once-flat_map f each apart (x ∷ xs) once =
      Once-append (f x) (flat_map f xs) (each x) (Once-flat_map f each apart xs once.1)
      (λ y left right. (let at = In-flat_map f xs y right in once.0 (subst (λ z. In z xs) (sym (apart x at.0 y left at.2)) at.1)))

module _ {X : Type 0} where
  -- numbers from a on are no less than a
  numbers_rise : (a : ℕ) (xs : List X) (p : ℕ × X) → In p (enumerate_from a xs) → a ≤ p.0
  numbers_rise a [] p inside = absurd inside
  numbers_rise a (x ∷ xs) p inside =
      elim inside [
        | inl here ↦ (let e : a ≡ p.0 = ap (λ (q : ℕ × X). q.0) here in omega arith)
        | inr there ↦ (let h : a + 1 ≤ p.0 = numbers_rise (a + 1) xs p there in omega arith)
      ]

module _ {X Y : Type 0} (f : ℕ × X → List Y) (Of : ℕ → Y → Type 0) (each : (p : ℕ × X) → Once (f p)) (own : (p : ℕ × X) (y : Y) → In y (f p) → Of p.0 y)
    (one : (m n : ℕ) (y : Y) → Of m y → Of n y → m ≡ n) where
  -- what the lists of numbered elements have tells the number
  pub Once-numbered : (a : ℕ) (xs : List X) → Once (flat_map f (enumerate_from a xs))
  Once-numbered a [] = tt
  Once-numbered a (x ∷ xs) =
      Once-append (f (a, x)) (flat_map f (enumerate_from (a + 1) xs)) (each (a, x)) (Once-numbered (a + 1) xs)
      (λ y left right. (
      let at = In-flat_map f (enumerate_from (a + 1) xs) y right in
      let low : a + 1 ≤ at.0.0 = numbers_rise (a + 1) xs at.0 at.1 in
      let same : a ≡ at.0.0 = one a at.0.0 y (own (a, x) y left) (own at.0 y at.2) in
      omega arith))
