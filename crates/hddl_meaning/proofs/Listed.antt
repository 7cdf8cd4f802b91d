-- What is in a list, and lists of different texts.
use Rattle.std.proofs.Common.{◌≡◌, ℕ, zero, suc, ◌+◌, ◌<◌, ◌≤◌, Bool, true, false, cond, List, [], ◌∷◌, ◌++◌, length, map, get_or, ◌⊎◌, inl, inr, sym, refl, ap, ◌∙◌, subst, arith, ◌||◌, append_assoc, append-nil}
use Rattle.std.specs.List.{All, AllByRecursion, flat_map, fold, list_any}
use Rattle.std.specs.Bool.{Decides}
use Rattle.std.specs.Cmp.{unsigned_Decides}
use Rattle.std.specs.Cmp.Lexicographic.{pointwise_decides}
use Rattle.std.proofs.lemmas.Bool.{both_ways, or_cases}
use Rattle.std.proofs.lemmas.List.{length_push}
use Rattle.std.proofs.lemmas.List.Elements.{All-contains_itself, All-from_recursion, Contains-append_cases, Contains-append_left, Contains-append_right}
use Rattle.std.proofs.lemmas.List.Folds.{list_any-append}
use Rattle.std.proofs.lemmas.List.Sums.{fold_push}
use Rattle.hddl_meaning.specs.Mentions.{IsIn, Text}
use Rattle.hddl_meaning.specs.Names.{distinct, is_same_text, with_name}

-- ## Members

module _ {X : Type 0} where
  -- the first of a list is in it
  pub at_head : (x : X) (xs : List X) → IsIn x (x ∷ xs)
  at_head x xs = (0, omega arith, refl)

  -- what is in the rest is in the list
  pub at_tail : (y x : X) (xs : List X) → IsIn x xs → IsIn x (y ∷ xs)
  at_tail y x xs h = (suc h.0, (let k : h.0 < length xs = h.1 in omega arith), h.2)

  -- nothing is in an empty list
  pub in_nothing : (x : X) → IsIn x [] → ⊥
  in_nothing x h = let k : h.0 < 0 = h.1 in omega arith

  -- what is in a list is its first or in the rest
  pub in_cases : (y x : X) (xs : List X) → IsIn x (y ∷ xs) → (y ≡ x) ⊎ IsIn x xs
  in_cases y x xs h = by h.0 h.1 h.2
    where
      by : (k : ℕ) → k < length (y ∷ xs) → get_or (y ∷ xs) k x ≡ x → (y ≡ x) ⊎ IsIn x xs
      by zero lt e = inl e
      by (suc k) lt e = inr (k, omega arith, e)

  -- what is in the first of two lists is in both joined
  pub in_left : (x : X) (xs ys : List X) → IsIn x xs → IsIn x (xs ++ ys)
  in_left x xs ys h = Contains-append_left xs ys x h

  -- what is in the second of two lists is in both joined
  pub in_right : (x : X) (xs ys : List X) → IsIn x ys → IsIn x (xs ++ ys)
  in_right x xs ys h = Contains-append_right xs ys x h

  -- a list with a value in it has a length
  pub some_are_in : (x : X) (xs : List X) → IsIn x xs → 0 < length xs
  some_are_in x xs h = let k : h.0 < length xs = h.1 in omega arith

module _ {X Y : Type 0} where
  -- the image of a value is in the mapped list
  pub in_map : (f : X → Y) (x : X) (xs : List X) → IsIn x xs → IsIn (f x) (map f xs)
  in_map f x [] h = absurd (in_nothing x h)
  in_map f x (y ∷ xs) h =
      elim (in_cases y x xs h) [
        | inl e ↦ subst (λ z. IsIn z (f y ∷ map f xs)) (ap f e) (at_head (f y) (map f xs))
        | inr later ↦ at_tail (f y) (f x) (map f xs) (in_map f x xs later)
      ]

  -- what is in the part of a value is in the joined parts
  pub in_flat_map : (f : X → List Y) (x : X) (y : Y) (xs : List X) → IsIn x xs → IsIn y (f x) → IsIn y (flat_map f xs)
  in_flat_map f x y [] h g = absurd (in_nothing x h)
  in_flat_map f x y (z ∷ xs) h g =
      elim (in_cases z x xs h) [
        | inl e ↦ in_left y (f z) (flat_map f xs) (subst (λ w. IsIn y (f w)) (sym e) g)
        | inr later ↦ in_right y (f z) (flat_map f xs) (in_flat_map f x y xs later g)
      ]

module _ {X : Type 0} (P : X → Type 0) where
  -- what holds of each value in a list holds of all
  pub each : (xs : List X) → ((x : X) → IsIn x xs → P x) → All P xs
  each xs f = λ k d lt. f (get_or xs k d) (All-contains_itself xs k d lt)

  -- what holds of each image holds of the mapped list, value by value
  each_by : {Y : Type 0} (f : Y → X) (ys : List Y) → ((y : Y) → IsIn y ys → P (f y)) → AllByRecursion P (map f ys)
  each_by f [] g = tt
  each_by f (y ∷ ys) g = (g y (at_head y ys), each_by f ys (λ z h. g z (at_tail y z ys h)))

  -- what holds of each image holds of all of the mapped list
  pub each_mapped : {Y : Type 0} (f : Y → X) (ys : List Y) → ((y : Y) → IsIn y ys → P (f y)) → All P (map f ys)
  each_mapped f ys g = All-from_recursion P (map f ys) (each_by f ys g)

-- ## Texts

-- the test of texts tells equality
pub texts_decide : (t u : Text) → Decides (is_same_text t u) (t ≡ u)
texts_decide = pointwise_decides unsigned_Decides

-- a text has the same bytes as itself
pub same_itself : (t : Text) → is_same_text t t ≡ true
same_itself t = (texts_decide t t).1 refl

-- where the first holds, either does
or_left : (a b : Bool) → a ≡ true → (a || b) ≡ true
or_left a b h = ap (λ x. x || b) h

-- where the second holds, either does
or_right : (a b : Bool) → b ≡ true → (a || b) ≡ true
or_right true b h = refl
or_right false b h = h

-- a test finds a text of the list
pub found : (t : Text) (ts : List Text) → IsIn t ts → list_any (is_same_text t) ts ≡ true
found t [] h = absurd (in_nothing t h)
found t (u ∷ ts) h =
    elim (in_cases u t ts h) [
      | inl e ↦ or_left (is_same_text t u) (list_any (is_same_text t) ts) ((texts_decide t u).1 (sym e))
      | inr later ↦ or_right (is_same_text t u) (list_any (is_same_text t) ts) (found t ts later)
    ]

-- ## Each text once

-- the distinct names with one text more
pub distinct_push : (ts : List Text) (t : Text) → distinct (ts ++ t ∷ []) ≡ with_name (distinct ts) t
distinct_push ts t = fold_push with_name [] ts t

module _ (test : Text → Bool) (names : List Text) (t : Text) where
  -- a name that was among some is among them with one more, whether it is added or not
  kept_by : (b : Bool) → list_any test names ≡ true → list_any test (cond b names (names ++ t ∷ [])) ≡ true
  kept_by true h = h
  kept_by false h = list_any-append test names (t ∷ []) ∙ or_left (list_any test names) (list_any test (t ∷ [])) h

  -- the same of a name that is added if it is new
  with_kept : list_any test names ≡ true → list_any test (with_name names t) ≡ true
  with_kept h = kept_by (list_any (is_same_text t) names) h

  -- a name is among some with it, whether it was or is added
  added_by : (b : Bool) → list_any (is_same_text t) names ≡ b → list_any (is_same_text t) (cond b names (names ++ t ∷ [])) ≡ true
  added_by true e = e
  added_by false e =
      list_any-append (is_same_text t) names (t ∷ [])
      ∙ or_right (list_any (is_same_text t) names) (list_any (is_same_text t) (t ∷ [])) (or_left (is_same_text t t) false (same_itself t))

  -- the same of a name that is added if it is new
  with_named : list_any (is_same_text t) (with_name names t) ≡ true
  with_named = added_by (list_any (is_same_text t) names) refl

-- what was among the names stays among them
fold_kept : (test : Text → Bool) (names ts : List Text) → list_any test names ≡ true → list_any test (fold with_name names ts) ≡ true
fold_kept test names [] h = h
fold_kept test names (t ∷ ts) h = fold_kept test (with_name names t) ts (with_kept test names t h)

-- each of the texts is among the names
fold_named : (names ts : List Text) (t : Text) → IsIn t ts → list_any (is_same_text t) (fold with_name names ts) ≡ true
fold_named names [] t h = absurd (in_nothing t h)
fold_named names (u ∷ ts) t h =
    elim (in_cases u t ts h) [
      | inl e ↦ fold_kept (is_same_text t) (with_name names u) ts
          (subst (λ x. list_any (is_same_text x) (with_name names u) ≡ true) e (with_named (is_same_text u) names u))
      | inr later ↦ fold_named (with_name names u) ts t later
    ]

-- a text of the list is one of its different texts
pub in_distinct : (ts : List Text) (t : Text) → IsIn t ts → list_any (is_same_text t) (distinct ts) ≡ true
in_distinct ts t h = fold_named [] ts t h

-- ## One more name before all others

-- each of the fewer names is among the more
abbrev Covers : List Text → List Text → Type 0
Covers more less = (t : Text) → list_any (is_same_text t) less ≡ true → list_any (is_same_text t) more ≡ true

-- what is among one text is that text
last_is : (u t : Text) → list_any (is_same_text u) (t ∷ []) ≡ true → u ≡ t
last_is u t h = elim (or_cases (is_same_text u t) false h) [ inl e ↦ (texts_decide u t).0 e | inr e ↦ absurd cc ]

-- names cover fewer ones with one that is among them
covers_push : (more less : List Text) (t : Text) → Covers more less → list_any (is_same_text t) more ≡ true → Covers more (less ++ t ∷ [])
covers_push more less t covers named u h =
    elim (or_cases (list_any (is_same_text u) less) (list_any (is_same_text u) (t ∷ [])) (sym (list_any-append (is_same_text u) less (t ∷ [])) ∙ h)) [
      | inl e ↦ covers u e
      | inr e ↦ subst (λ x. list_any (is_same_text x) more ≡ true) (sym (last_is u t e)) named
    ]

-- a name more makes at most one more
one_more : (more less ts : List Text) → Covers more less → length more ≤ suc (length less)
    → length (fold with_name more ts) ≤ suc (length (fold with_name less ts))
one_more more less [] covers short = short
one_more more less (t ∷ ts) covers short = by (list_any (is_same_text t) more) (list_any (is_same_text t) less) refl refl (λ m l c s. one_more m l ts c s)
  where
    by : (a b : Bool) → list_any (is_same_text t) more ≡ a → list_any (is_same_text t) less ≡ b
        → ((m l : List Text) → Covers m l → length m ≤ suc (length l) → length (fold with_name m ts) ≤ suc (length (fold with_name l ts)))
        → length (fold with_name (cond a more (more ++ t ∷ [])) ts) ≤ suc (length (fold with_name (cond b less (less ++ t ∷ [])) ts))
    by true true e g again = again more less covers short
    by true false e g again =
        let long : length (less ++ t ∷ []) ≡ length less + 1 = length_push less t in
        again more (less ++ t ∷ []) (covers_push more less t covers e) (omega arith)
    by false true e g again = absurd (both_ways _ e (covers t g))
    by false false e g again =
        let long : length (less ++ t ∷ []) ≡ length less + 1 = length_push less t in
        let longer : length (more ++ t ∷ []) ≡ length more + 1 = length_push more t in
        again (more ++ t ∷ []) (less ++ t ∷ [])
        (covers_push (more ++ t ∷ []) less t
        (λ u h. list_any-append (is_same_text u) more (t ∷ []) ∙ or_left (list_any (is_same_text u) more) (list_any (is_same_text u) (t ∷ [])) (covers u h))
        (list_any-append (is_same_text t) more (t ∷ [])
        ∙ or_right (list_any (is_same_text t) more) (list_any (is_same_text t) (t ∷ [])) (or_left (is_same_text t t) false (same_itself t))))
        (omega arith)

-- one text before a list adds at most one
pub distinct_cons : (t : Text) (ts : List Text) → length (distinct (t ∷ ts)) ≤ suc (length (distinct ts))
distinct_cons t ts = one_more (t ∷ []) [] ts (λ u h. absurd cc) (omega arith)

-- ## Lists of different texts

-- no text stands twice
abbrev pub AreDifferent : List Text → Type 0
AreDifferent [] = Unit {0}
AreDifferent (t ∷ ts) = (IsIn t ts → ⊥) × AreDifferent ts

-- a text that isn't among names isn't found
not_named : (t : Text) (names : List Text) → (IsIn t names → ⊥) → list_any (is_same_text t) names ≡ false
not_named t [] h = refl
not_named t (u ∷ names) h = by (is_same_text t u) refl (not_named t names (λ k. h (at_tail u t names k)))
  where
    by : (b : Bool) → is_same_text t u ≡ b → list_any (is_same_text t) names ≡ false → (b || list_any (is_same_text t) names) ≡ false
    by true e rest = absurd (h (subst (λ x. IsIn t (x ∷ names)) ((texts_decide t u).0 e) (at_head t names)))
    by false e rest = rest

-- different texts that are new all come at the end
fold_different : (names ts : List Text) → ((t : Text) → IsIn t names → IsIn t ts → ⊥) → AreDifferent ts → fold with_name names ts ≡ names ++ ts
fold_different names [] apart different = sym (append-nil names)
fold_different names (t ∷ ts) apart different =
    ap (λ b. fold with_name (cond b names (names ++ t ∷ [])) ts) (not_named t names (λ h. apart t h (at_head t ts)))
    ∙ fold_different (names ++ t ∷ []) ts further different.1 ∙ append_assoc names (t ∷ []) ts
  where
    further : (u : Text) → IsIn u (names ++ t ∷ []) → IsIn u ts → ⊥
    further u h g =
        elim (Contains-append_cases names (t ∷ []) u h) [
          | inl before ↦ apart u before (at_tail t u ts g)
          | inr last ↦ elim (in_cases t u [] last) [ inl e ↦ different.0 (subst (λ x. IsIn x ts) (sym e) g) | inr none ↦ in_nothing u none ]
        ]

-- texts that differ are each kept
pub distinct_itself : (ts : List Text) → AreDifferent ts → distinct ts ≡ ts
distinct_itself ts different = fold_different [] ts (λ t h g. in_nothing t h) different
