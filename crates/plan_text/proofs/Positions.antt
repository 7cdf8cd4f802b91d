-- Where an element first passes a test.
use Rattle.std.proofs.Common.{◌≡◌, ℕ, zero, suc, ◌+◌, ◌<◌, ◌≤◌, Bool, true, false, not, cond, ltb, List, [], ◌∷◌, ◌++◌, length, map, Some, None, Option, unwrap_or, refl, sym, ap, ◌∙◌, arith, one-add, take, drop}
use Rattle.std.specs.List.{position, position_or_len, prefix_len, list_all}
use Rattle.std.proofs.lemmas.Bool.{ltb-true, ltb-false, lt-ltb, le-ltb}
use Rattle.std.proofs.lemmas.List.Sums.{prefix_len-le-length}
use Rattle.plan_text.proofs.Cases.{when}

-- the first position, or the length
pub unwrap_or_position : {X : Type 0} (p : X → Bool) (xs : List X) → unwrap_or (position p xs) (length xs) ≡ position_or_len p xs
unwrap_or_position p xs =
    let within : position_or_len p xs ≤ length xs = prefix_len-le-length (λ x. not (p x)) xs in
    when (ltb (position_or_len p xs) (length xs))
    (λ inside. rw inside)
    (λ outside. rw outside (let past : length xs ≤ position_or_len p xs = ltb-false (position_or_len p xs) (length xs) outside in omega arith))

-- the length of a mapped front is that of the front
prefix_len_of_map : {X Y : Type 0} (p : Y → Bool) (f : X → Y) (xs : List X) → prefix_len p (map f xs) ≡ prefix_len (λ x. p (f x)) xs
prefix_len_of_map p f [] = refl
prefix_len_of_map p f (x ∷ xs) = ap (λ n. cond (p (f x)) (1 + n) 0) (prefix_len_of_map p f xs)

-- a mapped list is as long as the list
pub length_of_map : {X Y : Type 0} (f : X → Y) (xs : List X) → length (map f xs) ≡ length xs
length_of_map f [] = refl
length_of_map f (x ∷ xs) = ap suc (length_of_map f xs)

-- a place in the mapped list is that in the list
pub position_of_map : {X Y : Type 0} (p : Y → Bool) (f : X → Y) (xs : List X) → position p (map f xs) ≡ position (λ x. p (f x)) xs
position_of_map p f xs =
    let first = prefix_len_of_map (λ y. not (p y)) f xs in
    let len = length_of_map f xs in
    rw (first, len)

-- a mapped list passes where the list does by the image
pub list_all_of_map : {X Y : Type 0} (p : Y → Bool) (f : X → Y) (xs : List X) → list_all p (map f xs) ≡ list_all (λ x. p (f x)) xs
list_all_of_map p f [] = refl
list_all_of_map p f (x ∷ xs) = rw (list_all_of_map p f xs)

-- a place that is found is the first, and lies in the list
pub some_position : {X : Type 0} (p : X → Bool) (xs : List X) (n : ℕ) → position p xs ≡ Some n → (n ≡ position_or_len p xs) × (n < length xs)
some_position p xs n found = when (ltb (position_or_len p xs) (length xs))
    (λ inside.
    let same : n ≡ position_or_len p xs = (let e = rw inside at found in cc) in
    let within : position_or_len p xs < length xs = ltb-true (position_or_len p xs) (length xs) inside in
    (same, omega arith))
    (λ outside. let e = rw outside at found in cc)

-- where none is found, the first is past the end
pub none_position : {X : Type 0} (p : X → Bool) (xs : List X) → position p xs ≡ None → length xs ≤ position_or_len p xs
none_position p xs found = when (ltb (position_or_len p xs) (length xs))
    (λ inside. let e = rw inside at found in cc)
    (λ outside. ltb-false (position_or_len p xs) (length xs) outside)
