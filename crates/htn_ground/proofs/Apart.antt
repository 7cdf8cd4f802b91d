-- Relations where some parameters have values, and parameters that they do not name.
use Rattle.std.proofs.Common.{◌≡◌, ℕ, Bool, true, false, cond, not, ◌||◌, eqb, ltb, List, length, get_or, ◌<◌, ◌≤◌, refl, ap, arith}
use Rattle.std.specs.Bool.{beq}
use Rattle.std.proofs.lemmas.Bool.Decides.{nat_tests}
use Rattle.htn_model.specs.Schema.{Term, object, parameter}
use Rattle.htn_ground.specs.declared.relation.Relation.{Relation}
use Rattle.htn_ground.specs.declared.relation.Relation.TheVariants.{Different, Same}
use Rattle.htn_ground.specs.Search.{relation_single, single_of, term_after}

-- ## Values

-- a parameter with a value stands for its object
pub known : (values : List ℕ) (p : ℕ) → p < length values → term_after values p ≡ object (get_or values p 0)
known values p h = ap (λ b. cond b (object (get_or values p 0)) (parameter p)) (below p (length values) h)
  where
    below : (m n : ℕ) → m < n → ltb m n ≡ true
    below m n h = grind (arith, nat_tests)

-- one without a value stands for itself
pub unknown : (values : List ℕ) (p : ℕ) → length values ≤ p → term_after values p ≡ parameter p
unknown values p h = ap (λ b. cond b (object (get_or values p 0)) (parameter p)) (above p (length values) h)
  where
    above : (m n : ℕ) → n ≤ m → ltb m n ≡ false
    above m n h = grind (arith, nat_tests)

-- ## Parameters that a relation does not name

-- the relation is between the parameter and another
abbrev pub relation_names : Relation → ℕ → Bool
relation_names (Same a b) j = eqb a j || eqb b j
relation_names (Different a b) j = eqb a j || eqb b j

-- neither of two
not_or : (a b : Bool) → not (a || b) ≡ true → (not a ≡ true) × (not b ≡ true)
not_or true b e = cc
not_or false b e = (refl, e)

-- numbers that differ, as a test
other : (p j : ℕ) → not (eqb p j) ≡ true → eqb j p ≡ false
other p j e = grind (arith, nat_tests)

-- a parameter's value or its name
split_term : (values : List ℕ) (p : ℕ) → (P : Term → Type 0) → P (object (get_or values p 0)) → P (parameter p) → P (term_after values p)
split_term values p P known unknown = by (ltb p (length values))
  where
    by : (b : Bool) → P (cond b (object (get_or values p 0)) (parameter p))
    by true = known
    by false = unknown

-- an equality says nothing of a parameter that it doesn't name
single_apart : (positive : Bool) (a b : ℕ) (values : List ℕ) (j o : ℕ) → not (eqb a j || eqb b j) ≡ true → single_of positive (term_after values a) (term_after values b) j o ≡ true
single_apart positive a b values j o apart =
    let parts = not_or (eqb a j) (eqb b j) apart in
    let left : eqb j a ≡ false = other a j parts.0 in
    let right : eqb j b ≡ false = other b j parts.1 in
    split_term values a (λ s. single_of positive s (term_after values b) j o ≡ true)
    (split_term values b (λ t. single_of positive (object (get_or values a 0)) t j o ≡ true) refl (ap (λ c. not c || beq positive (eqb o (get_or values a 0))) right))
    (split_term values b (λ t. single_of positive (parameter a) t j o ≡ true) (ap (λ c. not c || beq positive (eqb o (get_or values b 0))) left) refl)

-- a relation allows each object at a parameter that it doesn't name
pub relation_apart : (r : Relation) (values : List ℕ) (j o : ℕ) → not (relation_names r j) ≡ true → relation_single values r j o ≡ true
relation_apart (Same a b) values j o apart = single_apart true a b values j o apart
relation_apart (Different a b) values j o apart = single_apart false a b values j o apart
