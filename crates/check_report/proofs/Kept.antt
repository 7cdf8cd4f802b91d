-- What a filter keeps of a list.
use Rattle.std.proofs.Common.{◌≡◌, ◌⊎◌, ◌<◌, inl, inr, arith, zero, suc, ℕ, Bool, true, false, cond, List, [], ◌∷◌, ap, sym, refl, ◌∙◌, length, get_or}
use Rattle.std.specs.List.{Contains, filter}

module _ {X : Type 0} where
  -- an element is the first or among the others
  pub contains_cases : (y : X) (ys : List X) (x : X) → Contains (y ∷ ys) x → (y ≡ x) ⊎ Contains ys x
  contains_cases y ys x h = by h.0 h.1 h.2
    where
      by : (k : ℕ) → k < suc (length ys) → get_or (y ∷ ys) k x ≡ x → (y ≡ x) ⊎ Contains ys x
      by zero less is = inl is
      by (suc k) less is = inr (k, omega (arith, less), is)

  -- the first is an element
  pub contains_first : (y : X) (ys : List X) (x : X) → y ≡ x → Contains (y ∷ ys) x
  contains_first y ys x is = (0, omega arith, is)

  -- and so are the others
  pub contains_later : (y : X) (ys : List X) (x : X) → Contains ys x → Contains (y ∷ ys) x
  contains_later y ys x h = (suc h.0, omega (arith, h.1), h.2)

  module _ (p : X → Bool) where
    -- what is kept is in the list and passes
    pub kept_passes : (xs : List X) (x : X) → Contains (filter p xs) x → Contains xs x × (p x ≡ true)
    kept_passes [] x h = let less = h.1 in absurd (omega arith)
    kept_passes (y ∷ ys) x h = by (λ k. kept_passes ys x k) (p y) refl h
      where
        later : Contains ys x × (p x ≡ true) → Contains (y ∷ ys) x × (p x ≡ true)
        later k = (contains_later y ys x k.0, k.1)

        by : (Contains (filter p ys) x → Contains ys x × (p x ≡ true)) → (b : Bool) → p y ≡ b → Contains (cond b (y ∷ filter p ys) (filter p ys)) x
            → Contains (y ∷ ys) x × (p x ≡ true)
        by others true passes among = elim (contains_cases y (filter p ys) x among) [
          | inl is ↦ (contains_first y ys x is, ap p (sym is) ∙ passes)
          | inr rest ↦ later (others rest)
        ]
        by others false passes among = later (others among)

    -- what passes is kept
    pub passing_is_kept : (xs : List X) (x : X) → Contains xs x → p x ≡ true → Contains (filter p xs) x
    passing_is_kept [] x h passes = let less = h.1 in absurd (omega arith)
    passing_is_kept (y ∷ ys) x h passes = by (λ k. passing_is_kept ys x k passes) (p y) refl
      where
        never : false ≡ true → ⊥
        never e = absurd cc

        by : (Contains ys x → Contains (filter p ys) x) → (b : Bool) → p y ≡ b → Contains (cond b (y ∷ filter p ys) (filter p ys)) x
        by others true kept = elim (contains_cases y ys x h) [
          | inl is ↦ contains_first y (filter p ys) x is
          | inr rest ↦ contains_later y (filter p ys) x (others rest)
        ]
        by others false out = elim (contains_cases y ys x h) [
          | inl is ↦ absurd (never (sym out ∙ ap p is ∙ passes))
          | inr rest ↦ others rest
        ]
