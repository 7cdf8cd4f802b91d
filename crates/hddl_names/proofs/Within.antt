-- Members of lists that are made of other lists.
use Rattle.std.proofs.Common.{◌≡◌, zero, suc, ◌⊎◌, Bool, true, false, cond, List, [], ◌∷◌, map, refl, sym, ap, subst, ◌∙◌, arith, inl, inr, ⊎_elim}
use Rattle.std.specs.List.{Contains, filter, flat_map}
use Rattle.std.proofs.lemmas.List.Elements.{Contains-append_left, Contains-append_right, Contains-append_cases}

-- the first of a list is in it
pub first : {X : Type 0} (x : X) (xs : List X) → Contains (x ∷ xs) x
first x xs = (0, omega arith, refl)

-- what is in the rest is in the list
pub later : {X : Type 0} (x y : X) (xs : List X) → Contains xs y → Contains (x ∷ xs) y
later x y xs h = Contains-append_right (x ∷ []) xs y h

-- what is in a list is its first or in the rest
pub cons_cases : {X : Type 0} (x y : X) (xs : List X) → Contains (x ∷ xs) y → (x ≡ y) ⊎ Contains xs y
cons_cases x y xs (zero, lt, is) = inl is
cons_cases x y xs (suc k, lt, is) = inr (k, omega (arith, lt), is)

-- nothing is in an empty list
pub nothing : {X : Type 0} (y : X) → Contains [] y → ⊥
nothing y (k, lt, is) = omega (arith, lt)

-- the image of a value is in the mapped list
pub mapped : {X Y : Type 0} (f : X → Y) (xs : List X) (x : X) → Contains xs x → Contains (map f xs) (f x)
mapped f [] x h = absurd (nothing x h)
mapped f (z ∷ xs) x h = ⊎_elim (λ e. subst (Contains (map f (z ∷ xs))) (ap f e) (first (f z) (map f xs))) (λ rest. later (f z) (f x) (map f xs) (mapped f xs x rest)) (cons_cases z x xs h)

-- what is in the mapped list is an image
pub unmapped : {X Y : Type 0} (f : X → Y) (xs : List X) (y : Y) → Contains (map f xs) y → (x : X) × Contains xs x × (f x ≡ y)
unmapped f [] y h = absurd (nothing y h)
unmapped f (z ∷ xs) y h =
    ⊎_elim (λ e. (z, first z xs, e)) (λ rest. let found = unmapped f xs y rest in (found.0, later z found.0 xs found.1, found.2)) (cons_cases (f z) y (map f xs) h)

-- a value that passes is in the filtered list
pub kept : {X : Type 0} (p : X → Bool) (xs : List X) (x : X) → Contains xs x → p x ≡ true → Contains (filter p xs) x
kept p [] x h passes = absurd (nothing x h)
kept p (z ∷ xs) x h passes = ⊎_elim here (λ rest. there (p z) (kept p xs x rest passes)) (cons_cases z x xs h)
  where
    here : z ≡ x → Contains (filter p (z ∷ xs)) x
    here e = subst (λ t. Contains (cond t (z ∷ filter p xs) (filter p xs)) x) (sym (ap p e ∙ passes)) (subst (Contains (z ∷ filter p xs)) e (first z (filter p xs)))

    there : (t : Bool) → Contains (filter p xs) x → Contains (cond t (z ∷ filter p xs) (filter p xs)) x
    there true h = later z x (filter p xs) h
    there false h = h

-- what is in the filtered list is in the list, and passes
pub unkept : {X : Type 0} (p : X → Bool) (xs : List X) (x : X) → Contains (filter p xs) x → Contains xs x × (p x ≡ true)
unkept p [] x h = absurd (nothing x h)
unkept p (z ∷ xs) x h = by (p z) refl h (unkept p xs x)
  where
    by : (t : Bool) → p z ≡ t → Contains (cond t (z ∷ filter p xs) (filter p xs)) x → (Contains (filter p xs) x → Contains xs x × (p x ≡ true)) → Contains (z ∷ xs) x × (p x ≡ true)
    by true e h rest = ⊎_elim (λ is. (subst (Contains (z ∷ xs)) is (first z xs), ap p (sym is) ∙ e)) (λ there. let found = rest there in (later z x xs found.0, found.1)) (cons_cases z x (filter p xs) h)
    by false e h rest = let found = rest h in (later z x xs found.0, found.1)

-- what is in the part of a value is in the joined parts
pub in_parts : {X Y : Type 0} (f : X → List Y) (xs : List X) (x : X) (y : Y) → Contains xs x → Contains (f x) y → Contains (flat_map f xs) y
in_parts f [] x y h part = absurd (nothing x h)
in_parts f (z ∷ xs) x y h part =
    ⊎_elim (λ e. Contains-append_left (f z) (flat_map f xs) y (subst (λ w. Contains (f w) y) (sym e) part)) (λ rest. Contains-append_right (f z) (flat_map f xs) y (in_parts f xs x y rest part)) (cons_cases z x xs h)

-- what is in the joined parts is in the part of a value
pub from_parts : {X Y : Type 0} (f : X → List Y) (xs : List X) (y : Y) → Contains (flat_map f xs) y → (x : X) × Contains xs x × Contains (f x) y
from_parts f [] y h = absurd (nothing y h)
from_parts f (z ∷ xs) y h =
    ⊎_elim (λ part. (z, first z xs, part)) (λ rest. let found = from_parts f xs y rest in (found.0, later z found.0 xs found.1, found.2)) (Contains-append_cases (f z) (flat_map f xs) y h)
