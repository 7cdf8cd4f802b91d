-- Lists, and lists from the last member on.
use Rattle.std.proofs.Common.{◌≡◌, ℕ, zero, suc, ◌+◌, ◌<◌, ◌≤◌, Bool, true, false, cond, slice_index_or, filter, List, [], ◌∷◌, ◌++◌, take, drop, reverse, length, map, Option, Some, None, refl, ap, sym, subst, ◌∙◌, append-nil, arith}
use Rattle.std.specs.List.{AllByRecursion}
use Rattle.std.proofs.lemmas.List.{reverse-append}
use Rattle.htn_plan.specs.Gathered.{somes}

-- all members of two lists
pub all_join : {X : Type 0} (P : X → Type 0) (xs ys : List X) → AllByRecursion P xs → AllByRecursion P ys → AllByRecursion P (xs ++ ys)
all_join P [] ys all others = others
all_join P (x ∷ xs) ys all others = (all.0, all_join P xs ys all.1 others)

-- all members of the first of two
pub all_left : {X : Type 0} (P : X → Type 0) (xs ys : List X) → AllByRecursion P (xs ++ ys) → AllByRecursion P xs
all_left P [] ys all = tt
all_left P (x ∷ xs) ys all = (all.0, all_left P xs ys all.1)

-- all members of the second of two
pub all_right : {X : Type 0} (P : X → Type 0) (xs ys : List X) → AllByRecursion P (xs ++ ys) → AllByRecursion P ys
all_right P [] ys all = all
all_right P (x ∷ xs) ys all = all_right P xs ys all.1

-- the first member comes last, turned round
pub reverse_front : {X : Type 0} (x : X) (xs : List X) → reverse (x ∷ xs) ≡ reverse xs ++ x ∷ []
reverse_front x xs = reverse-append (x ∷ []) xs

-- and the last one first
pub reverse_last : {X : Type 0} (xs : List X) (x : X) → reverse (xs ++ x ∷ []) ≡ x ∷ reverse xs
reverse_last xs x = reverse-append xs (x ∷ [])

-- all members, turned round
pub all_reversed : {X : Type 0} (P : X → Type 0) (xs : List X) → AllByRecursion P xs → AllByRecursion P (reverse xs)
all_reversed P [] all = tt
all_reversed P (x ∷ xs) all = subst (AllByRecursion P) (sym (reverse_front x xs)) (all_join P (reverse xs) (x ∷ []) (all_reversed P xs all.1) (all.0, tt))

-- ## One member more

-- one more is taken
pub take_one : {X : Type 0} (n : ℕ) (xs : List X) (x : X) (ys : List X) → drop n xs ≡ x ∷ ys → take (suc n) xs ≡ take n xs ++ x ∷ []
take_one zero [] x ys e = absurd cc
take_one zero (y ∷ xs) x ys e = cc
take_one (suc n) [] x ys e = absurd cc
take_one (suc n) (y ∷ xs) x ys e = ap (λ zs. y ∷ zs) (take_one n xs x ys e)

-- one more is dropped
pub drop_one : {X : Type 0} (n : ℕ) (xs : List X) (x : X) (ys : List X) → drop n xs ≡ x ∷ ys → drop (suc n) xs ≡ ys
drop_one zero [] x ys e = absurd cc
drop_one zero (y ∷ xs) x ys e = cc
drop_one (suc n) [] x ys e = absurd cc
drop_one (suc n) (y ∷ xs) x ys e = drop_one n xs x ys e

-- no more is taken where nothing is left
pub take_none : {X : Type 0} (n : ℕ) (xs : List X) → drop n xs ≡ [] → take (suc n) xs ≡ take n xs
take_none zero [] e = refl
take_none zero (y ∷ xs) e = absurd cc
take_none (suc n) [] e = refl
take_none (suc n) (y ∷ xs) e = ap (λ zs. y ∷ zs) (take_none n xs e)

-- no more is left where nothing was
pub drop_none : {X : Type 0} (n : ℕ) (xs : List X) → drop n xs ≡ [] → drop (suc n) xs ≡ []
drop_none zero [] e = refl
drop_none zero (y ∷ xs) e = absurd cc
drop_none (suc n) [] e = refl
drop_none (suc n) (y ∷ xs) e = drop_none n xs e

-- as many are taken as the first list has
pub take_exactly : {X : Type 0} (xs ys : List X) → take (length xs) (xs ++ ys) ≡ xs
take_exactly [] ys = refl
take_exactly (x ∷ xs) ys = ap (λ zs. x ∷ zs) (take_exactly xs ys)

-- and as many dropped
pub drop_exactly : {X : Type 0} (xs ys : List X) → drop (length xs) (xs ++ ys) ≡ ys
drop_exactly [] ys = refl
drop_exactly (x ∷ xs) ys = drop_exactly xs ys

-- the ids that are there in two lists
pub somes_join : (xs ys : List (Option ℕ)) → somes (xs ++ ys) ≡ somes xs ++ somes ys
somes_join [] ys = refl
somes_join (None ∷ xs) ys = somes_join xs ys
somes_join (Some x ∷ xs) ys = ap (λ zs. x ∷ zs) (somes_join xs ys)

-- ## Members by their places

-- the next image is that of the next member
pub drop_map : {X Y : Type 0} (f : X → Y) (xs : List X) (k : ℕ) (x : X) → k < length xs → x ≡ slice_index_or xs k x → drop k (map f xs) ≡ f x ∷ drop (suc k) (map f xs)
drop_map f [] k x h e = absurd (omega arith)
drop_map f (y ∷ xs) zero x h e = ap (λ z. f z ∷ map f xs) (sym e)
drop_map f (y ∷ xs) (suc k) x h e = drop_map f xs k x (omega arith) e

-- the images of one more
pub take_map : {X Y : Type 0} (f : X → Y) (xs : List X) (k : ℕ) (x : X) → k < length xs → x ≡ slice_index_or xs k x → map f (take (suc k) xs) ≡ map f (take k xs) ++ f x ∷ []
take_map f [] k x h e = absurd (omega arith)
take_map f (y ∷ xs) zero x h e = ap (λ z. f z ∷ []) (sym e)
take_map f (y ∷ xs) (suc k) x h e = ap (λ zs. f y ∷ zs) (take_map f xs k x (omega arith) e)

-- the images of two lists
pub map_join : {X Y : Type 0} (f : X → Y) (xs ys : List X) → map f (xs ++ ys) ≡ map f xs ++ map f ys
map_join f [] ys = refl
map_join f (x ∷ xs) ys = ap (λ zs. f x ∷ zs) (map_join f xs ys)

-- what passes of two lists
pub filter_join : {X : Type 0} (f : X → Bool) (xs ys : List X) → filter f (xs ++ ys) ≡ filter f xs ++ filter f ys
filter_join f [] ys = refl
filter_join f (x ∷ xs) ys = by (f x) (filter_join f xs ys)
  where
    by : (b : Bool) → filter f (xs ++ ys) ≡ filter f xs ++ filter f ys → cond b (x ∷ filter f (xs ++ ys)) (filter f (xs ++ ys)) ≡ cond b (x ∷ filter f xs) (filter f xs) ++ filter f ys
    by true h = ap (λ zs. x ∷ zs) h
    by false h = h

-- there are as many images
pub length_map : {X Y : Type 0} (f : X → Y) (xs : List X) → length (map f xs) ≡ length xs
length_map f [] = refl
length_map f (x ∷ xs) = ap suc (length_map f xs)

-- what is taken and what is left are the list
pub take_drop : {X : Type 0} (n : ℕ) (xs : List X) → take n xs ++ drop n xs ≡ xs
take_drop zero xs = refl
take_drop (suc n) [] = refl
take_drop (suc n) (x ∷ xs) = ap (λ zs. x ∷ zs) (take_drop n xs)

-- all are taken
pub take_all : {X : Type 0} (n : ℕ) (xs : List X) → length xs ≤ n → take n xs ≡ xs
take_all zero [] h = refl
take_all zero (x ∷ xs) h = absurd (omega arith)
take_all (suc n) [] h = refl
take_all (suc n) (x ∷ xs) h = ap (λ zs. x ∷ zs) (take_all n xs (omega arith))

-- what is left begins with the next member
pub drop_at : {X : Type 0} (xs : List X) (k : ℕ) (d : X) → k < length xs → drop k xs ≡ slice_index_or xs k d ∷ drop (suc k) xs
drop_at [] k d h = absurd (omega arith)
drop_at (y ∷ xs) zero d h = refl
drop_at (y ∷ xs) (suc k) d h = drop_at xs k d (omega arith)

-- ## Taking the last off

module _ (all old new : List (Option ℕ)) (k : ℕ) (taken : List ℕ) (are : taken ≡ somes (take k all)) (left : reverse old ≡ drop k all) where
  -- of ids that are taken from the end, one more that is or isn't there
  pub one_taken : (id : Option ℕ) (more : List ℕ) → old ≡ new ++ id ∷ [] → more ≡ taken ++ somes (id ∷ [])
      → (more ≡ somes (take (k + 1) all)) × (reverse new ≡ drop (k + 1) all)
  one_taken id more popped is = (
    is ∙ ap (λ xs. xs ++ somes (id ∷ [])) are ∙ sym (somes_join (take k all) (id ∷ [])) ∙ ap somes (sym (take_one k all id (reverse new) here) ∙ ap (λ n. take n all) one),
    sym (drop_one k all id (reverse new) here) ∙ ap (λ n. drop n all) one,
  )
    where
      here : drop k all ≡ id ∷ reverse new
      here = sym left ∙ ap reverse popped ∙ reverse_last new id

      one : suc k ≡ k + 1
      one = omega arith

  -- of ids that are taken from the end, none more
  pub none_taken : old ≡ new ++ [] → length new ≡ 0 → (taken ≡ somes (take (k + 1) all)) × (reverse new ≡ drop (k + 1) all)
  none_taken popped empty = (are ∙ ap somes (sym (take_none k all here) ∙ ap (λ n. take n all) one), ap reverse (nothing new empty) ∙ sym (drop_none k all here) ∙ ap (λ n. drop n all) one)
    where
      nothing : (xs : List (Option ℕ)) → length xs ≡ 0 → xs ≡ []
      nothing [] h = refl
      nothing (x ∷ xs) h = absurd (omega arith)

      here : drop k all ≡ []
      here = sym left ∙ ap reverse (popped ∙ append-nil new ∙ nothing new empty)

      one : suc k ≡ k + 1
      one = omega arith

-- two lists have as many members together
pub length_join : {X : Type 0} (xs ys : List X) → length (xs ++ ys) ≡ length xs + length ys
length_join [] ys = omega arith
length_join (x ∷ xs) ys = let e = length_join xs ys in omega (arith, e)
