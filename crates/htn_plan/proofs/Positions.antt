-- Where places stand in the list that numbers them.
use Rattle.std.proofs.Common.{◌≡◌, ℕ, suc, ◌+◌, Bool, true, false, cond, eqb, nat_eq, ◌&&◌, ◌||◌, List, [], ◌∷◌, ◌++◌, length, Some, None, refl, ap, ap₂, sym, ◌∙◌, append_assoc, arith}
use Rattle.std.specs.Prelude.{unwrap_or}
use Rattle.std.specs.Cmp.Lexicographic.{pointwise}
use Rattle.std.specs.List.{list_any}
use Rattle.std.proofs.lemmas.Bool.{eq-eqb, eqb-true}
use Rattle.htn_model.specs.Tree.{Place, Solution}
use Rattle.htn_model.specs.Numbered.{action_places, compound_places, numbered_places, is_same_place, position, id_in}
use Rattle.htn_plan.specs.Ids.{id_among}

-- a place is the same as itself
pub same_itself : (p : Place) → is_same_place p p ≡ true
same_itself [] = refl
same_itself (i ∷ p) = ap₂ ◌&&◌ (eq-eqb i i refl) (same_itself p)

-- the same places are equal
pub same_equal : (p q : Place) → is_same_place p q ≡ true → p ≡ q
same_equal [] [] h = refl
same_equal [] (j ∷ q) h = absurd cc
same_equal (i ∷ p) [] h = absurd cc
same_equal (i ∷ p) (j ∷ q) h = by (eqb i j) refl h (same_equal p q)
  where
    by : (b : Bool) → eqb i j ≡ b → (b && is_same_place p q) ≡ true → (is_same_place p q ≡ true → p ≡ q) → i ∷ p ≡ j ∷ q
    by true e g more = ap₂ ◌∷◌ (eqb-true i j e) (more g)
    by false e g more = absurd cc

-- ## Lists that begin with others

-- a place that stands in the first list has its position there
pub position_within : (p : Place) (xs ys : List Place) → list_any (is_same_place p) xs ≡ true → position p (xs ++ ys) ≡ position p xs
position_within p [] ys h = absurd cc
position_within p (x ∷ xs) ys h = by (is_same_place p x) h (position_within p xs ys)
  where
    by : (b : Bool) → (b || list_any (is_same_place p) xs) ≡ true → (list_any (is_same_place p) xs ≡ true → position p (xs ++ ys) ≡ position p xs)
        → cond b 0 (suc (position p (xs ++ ys))) ≡ cond b 0 (suc (position p xs))
    by true g more = refl
    by false g more = ap suc (more g)

-- a place that doesn't is looked for in the second
pub position_after : (p : Place) (xs ys : List Place) → list_any (is_same_place p) xs ≡ false → position p (xs ++ ys) ≡ length xs + position p ys
position_after p [] ys h = omega arith
position_after p (x ∷ xs) ys h = let e = by (is_same_place p x) h (position_after p xs ys) in e ∙ omega arith
  where
    by : (b : Bool) → (b || list_any (is_same_place p) xs) ≡ false → (list_any (is_same_place p) xs ≡ false → position p (xs ++ ys) ≡ length xs + position p ys)
        → cond b 0 (suc (position p (xs ++ ys))) ≡ suc (length xs + position p ys)
    by true g more = absurd cc
    by false g more = ap suc (more g)

-- the first place has position 0
pub position_front : (p : Place) (ys : List Place) → position p (p ∷ ys) ≡ 0
position_front p ys = ap (λ b. cond b 0 (suc (position p ys))) (same_itself p)

-- a place has the position behind those that it isn't among
pub position_there : (p : Place) (xs ys : List Place) → list_any (is_same_place p) xs ≡ false → position p (xs ++ p ∷ ys) ≡ length xs
position_there p xs ys h =
    let a = position_after p xs (p ∷ ys) h in
    let b = position_front p ys in
    omega (arith, a, b)

-- ## The next action's id

-- the next action's id, where the places before it are numbered
pub id_next : (s : Solution) (P rest : List Place) (q : Place) (n : ℕ) → action_places s ≡ P ++ q ∷ rest → n ≡ length P
    → unwrap_or (id_among s P q) n ≡ id_in s q
id_next s P rest q n e long = by (list_any (is_same_place q) P) refl
  where
    whole : numbered_places s ≡ P ++ q ∷ (rest ++ compound_places s)
    whole = ap (λ xs. xs ++ compound_places s) e ∙ append_assoc P (q ∷ rest) (compound_places s)

    by : (b : Bool) → list_any (is_same_place q) P ≡ b → unwrap_or (cond b (Some (id_in s q)) None) n ≡ id_in s q
    by true h = refl
    by false h = long ∙ sym (ap (position q) whole ∙ position_there q P (rest ++ compound_places s) h)

-- whether a place is among others and one more
any_last : (p : Place) (P : List Place) (q : Place) → list_any (is_same_place p) (P ++ q ∷ []) ≡ (list_any (is_same_place p) P || is_same_place p q)
any_last p [] q = by (is_same_place p q)
  where
    by : (b : Bool) → (b || false) ≡ b
    by true = refl
    by false = refl
any_last p (x ∷ P) q = by (is_same_place p x) (any_last p P q)
  where
    by : (b : Bool) → list_any (is_same_place p) (P ++ q ∷ []) ≡ (list_any (is_same_place p) P || is_same_place p q)
        → (b || list_any (is_same_place p) (P ++ q ∷ [])) ≡ ((b || list_any (is_same_place p) P) || is_same_place p q)
    by true h = refl
    by false h = h

-- places are compared number by number
pointwise_same : (q p : Place) → pointwise nat_eq q p ≡ is_same_place p q
pointwise_same [] [] = refl
pointwise_same [] (i ∷ p) = refl
pointwise_same (j ∷ q) [] = refl
pointwise_same (j ∷ q) (i ∷ p) = ap₂ ◌&&◌ (turned j i) (pointwise_same q p)
  where
    turned : (a b : ℕ) → nat_eq a b ≡ eqb b a
    turned a b = by (eqb a b) refl (eqb b a) refl
      where
        by : (x : Bool) → eqb a b ≡ x → (y : Bool) → eqb b a ≡ y → x ≡ y
        by true h true g = refl
        by true h false g = let e = eq-eqb b a (sym (eqb-true a b h)) in absurd cc
        by false h true g = let e = eq-eqb a b (sym (eqb-true b a g)) in absurd cc
        by false h false g = refl

-- with one place more, its id is found as well as those before
pub ids_next : (s : Solution) (P : List Place) (q p : Place) → cond (pointwise nat_eq q p) (Some (id_in s q)) (id_among s P p) ≡ id_among s (P ++ q ∷ []) p
ids_next s P q p =
    ap (λ b. cond b (Some (id_in s q)) (id_among s P p)) (pointwise_same q p)
    ∙ by (is_same_place p q) refl (list_any (is_same_place p) P)
    ∙ ap (λ b. cond b (Some (id_in s p)) None) (sym (any_last p P q))
  where
    by : (b : Bool) → is_same_place p q ≡ b → (c : Bool) → cond b (Some (id_in s q)) (cond c (Some (id_in s p)) None) ≡ cond (c || b) (Some (id_in s p)) None
    by true h true = ap (λ x. Some (id_in s x)) (sym (same_equal p q h))
    by true h false = ap (λ x. Some (id_in s x)) (sym (same_equal p q h))
    by false h true = refl
    by false h false = refl
