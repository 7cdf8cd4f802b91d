-- Lists in which each element stands once, made by adding what they lack.
use Rattle.std.proofs.Common.{◌≡◌, zero, suc, ◌⊎◌, Bool, true, false, List, [], ◌∷◌, ◌++◌, refl, sym, ap, subst, ◌∙◌, arith, inl, inr, ⊎_elim, append_assoc, if◌then◌else◌}
use Rattle.std.specs.List.{Contains, IsDistinct, list_any}
use Rattle.std.proofs.lemmas.List.{append-nil}
use Rattle.std.proofs.lemmas.List.Elements.{Contains-append_left, Contains-append_right, Contains-push_cases}
use Rattle.std.proofs.lemmas.Map.Keys.{IsDistinct-push}
use Rattle.std.specs.Cmp.{IsEquivalence}
use Rattle.indexmap.specs.IndexSet.{insert_key, insert_all}
use Rattle.indexmap.proofs.CallerLemmas.{Contains-insert_key}

module _ {K : Type 0} (eq : K → K → Bool) where
  -- to add a value puts at most something at the end
  pub insert-more : (ks : List K) (x : K) → (more : List K) × (insert_key eq ks x ≡ ks ++ more)
  insert-more ks x = by (list_any (eq x) ks)
    where
      by : (t : Bool) → (more : List K) × ((if t then ks else ks ++ x ∷ []) ≡ ks ++ more)
      by true = ([], sym (append-nil ks))
      by false = (x ∷ [], refl)

  -- to add values puts at most something at the end
  pub insert_all-more : (ks xs : List K) → (more : List K) × (insert_all eq ks xs ≡ ks ++ more)
  insert_all-more ks [] = ([], sym (append-nil ks))
  insert_all-more ks (x ∷ xs) =
      let first = insert-more ks x in
      let rest = insert_all-more (insert_key eq ks x) xs in
      (first.0 ++ rest.0, rest.1 ∙ ap (λ l. l ++ rest.0) first.1 ∙ append_assoc ks first.0 rest.0)

  -- what is in the list with a value added was in it or is the value
  pub insert-cases : (ks : List K) (x y : K) → Contains (insert_key eq ks x) y → Contains ks y ⊎ (x ≡ y)
  insert-cases ks x y = by (list_any (eq x) ks)
    where
      by : (t : Bool) → Contains (if t then ks else ks ++ x ∷ []) y → Contains ks y ⊎ (x ≡ y)
      by true h = inl h
      by false h = Contains-push_cases ks x y h

  -- what is in the list with values added was in it or is one of them
  pub insert_all-cases : (ks xs : List K) (y : K) → Contains (insert_all eq ks xs) y → Contains ks y ⊎ Contains xs y
  insert_all-cases ks [] y h = inl h
  insert_all-cases ks (x ∷ xs) y h =
      ⊎_elim
      (λ old. ⊎_elim (λ before. inl before) (λ is. inr (0, omega arith, is)) (insert-cases ks x y old))
      (λ new. inr (Contains-append_right (x ∷ []) xs y new))
      (insert_all-cases (insert_key eq ks x) xs y h)

module _ {K : Type 0} (eq : K → K → Bool) (same : (x y : K) → eq x y ≡ true → x ≡ y) where
  -- what was in the list stays in it
  pub insert_all-old : (ks xs : List K) (y : K) → Contains ks y → Contains (insert_all eq ks xs) y
  insert_all-old ks xs y h = let grown = insert_all-more eq ks xs in subst (λ l. Contains l y) (sym grown.1) (Contains-append_left ks grown.0 y h)

  -- what is added is in the list
  pub insert_all-new : (ks xs : List K) (y : K) → Contains xs y → Contains (insert_all eq ks xs) y
  insert_all-new ks [] y (k, lt, is) = absurd (omega (arith, lt))
  insert_all-new ks (x ∷ xs) y (zero, lt, is) = insert_all-old (insert_key eq ks x) xs y (subst (Contains (insert_key eq ks x)) is (Contains-insert_key eq same ks x))
  insert_all-new ks (x ∷ xs) y (suc k, lt, is) = insert_all-new (insert_key eq ks x) xs y (k, omega (arith, lt), is)

module _ {K : Type 0} {eq : K → K → Bool} (laws : IsEquivalence eq) where
  -- a list without repeats has none once a value is added
  pub insert-different : (ks : List K) (x : K) → IsDistinct eq ks → IsDistinct eq (insert_key eq ks x)
  insert-different ks x different = by (list_any (eq x) ks) refl
    where
      by : (t : Bool) → list_any (eq x) ks ≡ t → IsDistinct eq (insert_key eq ks x)
      by true e = subst (λ u. IsDistinct eq (if u then ks else ks ++ x ∷ [])) (sym e) different
      by false e = subst (λ u. IsDistinct eq (if u then ks else ks ++ x ∷ [])) (sym e) (IsDistinct-push laws ks x different e)

  -- a list without repeats has none once values are added
  pub insert_all-different : (ks xs : List K) → IsDistinct eq ks → IsDistinct eq (insert_all eq ks xs)
  insert_all-different ks [] different = different
  insert_all-different ks (x ∷ xs) different = insert_all-different (insert_key eq ks x) xs (insert-different ks x different)
