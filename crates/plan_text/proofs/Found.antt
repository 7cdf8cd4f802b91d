-- The first element that passes a test, with what stands before and after it.
use Rattle.std.proofs.Common.{◌≡◌, ℕ, zero, suc, ◌+◌, ◌<◌, ◌≤◌, Bool, true, false, not, cond, ltb, ◌&&◌, List, [], ◌∷◌, ◌++◌, length, map, Some, None, Option, refl, sym, ap, ◌∙◌, arith, one-add, add-one, take, drop}
use Rattle.std.specs.List.{position, position_or_len, prefix_len, list_all}
use Rattle.std.specs.Option.{option_map}
use Rattle.std.proofs.lemmas.Bool.{ltb-true, ltb-false, lt-ltb, le-ltb}
use Rattle.std.proofs.Math.Seq.{take-append_seam, drop-append-add}
use Rattle.plan_text.proofs.Cases.{when}

module _ {X : Type 0} (p : X → Bool) where
  -- a first value that passes is found at once
  pub position-here : (x : X) (xs : List X) → p x ≡ true → position p (x ∷ xs) ≡ Some 0
  position-here x xs here =
      let inside : ltb 0 (length (x ∷ xs)) ≡ true = lt-ltb 0 (length (x ∷ xs)) (omega arith) in
      rw (here, inside)

  -- where the first value fails, the search goes on
  pub position-later : (x : X) (xs : List X) → p x ≡ false → position p (x ∷ xs) ≡ option_map suc (position p xs)
  position-later x xs other = when (ltb (position_or_len p xs) (length xs))
      (λ inside.
      let within = ltb-true (position_or_len p xs) (length xs) inside in
      let more : ltb (suc (position_or_len p xs)) (length (x ∷ xs)) ≡ true = lt-ltb (suc (position_or_len p xs)) (length (x ∷ xs)) (omega arith) in
      rw (other, one-add (position_or_len p xs), more, inside))
      (λ outside.
      let past = ltb-false (position_or_len p xs) (length xs) outside in
      let more : ltb (suc (position_or_len p xs)) (length (x ∷ xs)) ≡ false = le-ltb (suc (position_or_len p xs)) (length (x ∷ xs)) (omega arith) in
      rw (other, one-add (position_or_len p xs), more, outside))

  -- the first value that passes, with what stands before and after it, or that none passes
  pub data IsPosition (xs : List X) : Option ℕ → Type 0 where
    nowhere : list_all (λ x. not (p x)) xs ≡ true → IsPosition xs None
    somewhere : (front : List X) (x : X) (back : List X) → xs ≡ front ++ x ∷ back → list_all (λ x. not (p x)) front ≡ true → p x ≡ true → IsPosition xs (Some (length front))

  -- a value that fails in front moves what is found by one
  shifted : (x : X) (xs : List X) (found : Option ℕ) → p x ≡ false → IsPosition xs found → IsPosition (x ∷ xs) (option_map suc found)
  shifted x xs None other (nowhere all) = nowhere (rw other all)
  shifted x xs (Some n) other (somewhere front y back whole all passes) = somewhere (x ∷ front) y back (ap (λ ys. x ∷ ys) whole) (rw other all) passes

  -- what is found is the first that passes
  pub position_is : (xs : List X) → IsPosition xs (position p xs)
  position_is [] = nowhere refl
  position_is (x ∷ xs) = when (p x)
      (λ here. rw (position-here x xs here) (somewhere [] x xs refl refl here))
      (λ other. rw (position-later x xs other) (shifted x xs (position p xs) other (position_is xs)))

  -- where none passes, the first fails and no later one passes
  first_fails : (x : X) (xs : List X) → list_all (λ x. not (p x)) (x ∷ xs) ≡ true → (p x ≡ false) × (list_all (λ x. not (p x)) xs ≡ true)
  first_fails x xs all = when (p x)
      (λ passes. let e = rw passes at all in absurd cc)
      (λ fails. (fails, rw fails at all))

  -- where none passes, nothing is found
  pub position-nowhere : (xs : List X) → list_all (λ x. not (p x)) xs ≡ true → position p xs ≡ None
  position-nowhere [] all = refl
  position-nowhere (x ∷ xs) all =
      let h = first_fails x xs all in
      rw (position-later x xs h.0, position-nowhere xs h.1)

  -- a value that passes after ones that fail is found
  pub position-somewhere : (front : List X) (x : X) (back : List X) → list_all (λ x. not (p x)) front ≡ true → p x ≡ true → position p (front ++ x ∷ back) ≡ Some (length front)
  position-somewhere [] x back all passes = position-here x back passes
  position-somewhere (y ∷ front) x back all passes =
      let h = first_fails y front all in
      rw (position-later y (front ++ x ∷ back) h.0, position-somewhere front x back h.1 passes)

module _ {X : Type 0} (p : X → Bool) where
  -- where a search stopped
  pub record IsFound (xs : List X) (n : ℕ) : Type 0 where
    pub front : List X
    pub item : X
    pub back : List X
    pub whole : xs ≡ front ++ item ∷ back
    pub clear : list_all (λ x. not (p x)) front ≡ true
    pub passes : p item ≡ true
    pub len : n ≡ length front

  -- what is found at a place passes, and what stands before it fails
  inverted : (xs : List X) (found : Option ℕ) → IsPosition p xs found → (n : ℕ) → found ≡ Some n → IsFound xs n
  inverted xs None (nowhere all) n e = absurd cc
  inverted xs (Some m) (somewhere front x back whole all passes) n e =
      let len : n ≡ length front = cc in
      record { front = front; item = x; back = back; whole = whole; clear = all; passes = passes; len = len }

  -- the same of the search
  pub found_at : (xs : List X) (n : ℕ) → Some n ≡ position p xs → IsFound xs n
  found_at xs n e = inverted xs (position p xs) (position_is p xs) n (sym e)

  -- where nothing is found, none passes
  cleared : (xs : List X) (found : Option ℕ) → IsPosition p xs found → found ≡ None → list_all (λ x. not (p x)) xs ≡ true
  cleared xs None (nowhere all) e = all
  cleared xs (Some m) (somewhere front x back whole all passes) e = absurd cc

  -- the same of the search
  pub not_found : (xs : List X) → None ≡ position p xs → list_all (λ x. not (p x)) xs ≡ true
  not_found xs e = cleared xs (position p xs) (position_is p xs) (sym e)

-- what stands before a value
pub take-front : {X : Type 0} (front : List X) (x : X) (back : List X) → take (length front) (front ++ x ∷ back) ≡ front
take-front front x back = take-append_seam front (x ∷ back)

-- what stands after a value
pub drop-front : {X : Type 0} (front : List X) (x : X) (back : List X) → drop (length front + 1) (front ++ x ∷ back) ≡ back
drop-front front x back = drop-append-add front (x ∷ back) 1
