-- Values that are given, one more at a time; a parameter that no equality ties to an open one may have any object that
-- is allowed.
use Rattle.std.proofs.Common.{◌≡◌, ◌↔◌, ◌∙◌, ◌+◌, ◌<◌, ◌∷◌, ◌&&◌, ◌||◌, ◌==◌, ℕ, zero, suc, Bool, true, false, List, [], MatchOption, Option, Some, None, ap, arith, get_or, is_some, length, nat_eq, not, refl, set, subst, sym}
use Rattle.std.specs.Bool.{beq}
use Rattle.std.specs.Cmp.{unsigned_Decides}
use Rattle.std.specs.List.{list_all, list_any}
use Rattle.std.proofs.lemmas.List.{get_or-set_same, get_or-set_other, length-set}
use Rattle.htn_model.specs.Instances.{Conditions, equality_holds, have_types, is_instance, meets, value_of}
use Rattle.htn_model.specs.Schema.{EqualitySchema, Term, parameter, object}
use Rattle.htn_model.specs.Task.{Task, has_type, objects_of}
use Rattle.plan_lines.specs.Given.{Extends, object_of}
use Rattle.plan_lines.specs.Allowed.{HasInstanceWith, IsFilled, IsInstanceWith, equality_so_far, equals_so_far, has_type_so_far, is_parameter, meets_so_far, place_so_far, ties, values_of}
use Rattle.plan_lines.proofs.Narrowed.{opened, stands_for}

-- ## Tests

-- the first of both
pub first_of : (a b : Bool) → (a && b) ≡ true → a ≡ true
first_of true b e = refl
first_of false b e = absurd cc

-- the second of both
pub second_of : (a b : Bool) → (a && b) ≡ true → b ≡ true
second_of true b e = e
second_of false b e = absurd cc

-- both of two
pub both : (a b : Bool) → a ≡ true → b ≡ true → (a && b) ≡ true
both a b h g = λ i. h i && g i

-- neither of two: the first
neither_first : (a b : Bool) → (a || b) ≡ false → a ≡ false
neither_first true b e = absurd cc
neither_first false b e = refl

-- neither of two: the second
neither_second : (a b : Bool) → (a || b) ≡ false → b ≡ false
neither_second true b e = absurd cc
neither_second false b e = e

-- not both, where the second is so
not_and : (a : Bool) → (a && true) ≡ false → a ≡ false
not_and true e = absurd cc
not_and false e = refl

-- all pass a test that follows from one that all pass
list_all_by : {X : Type 0} (p q : X → Bool) (xs : List X) → ((x : X) → p x ≡ true → q x ≡ true) → list_all p xs ≡ true → list_all q xs ≡ true
list_all_by p q [] so h = refl
list_all_by p q (x ∷ xs) so h = both (q x) (list_all q xs) (so x (first_of (p x) (list_all p xs) h)) (list_all_by p q xs so (second_of (p x) (list_all p xs) h))

-- ## Types

-- values with types are as many as these
pub types_long : (t : Task) (types values : List ℕ) → have_types t types values ≡ true → length values ≡ length types
types_long t [] [] h = refl
types_long t [] (o ∷ values) h = absurd cc
types_long t (type ∷ types) [] h = absurd cc
types_long t (type ∷ types) (o ∷ values) h = ap suc (types_long t types values (second_of (has_type t type o) (have_types t types values) h))

-- each value has its type
pub type_at : (t : Task) (types values : List ℕ) (p : ℕ) → have_types t types values ≡ true → p < length types → has_type t (get_or types p 0) (get_or values p 0) ≡ true
type_at t [] values p h below = absurd (omega arith)
type_at t (type ∷ types) [] p h below = absurd cc
type_at t (type ∷ types) (o ∷ values) zero h below = first_of (has_type t type o) (have_types t types values) h
type_at t (type ∷ types) (o ∷ values) (suc p) h below = type_at t types values p (second_of (has_type t type o) (have_types t types values) h) (omega arith)

-- a value may be exchanged for one of its type
types_set : (t : Task) (types values : List ℕ) (p o : ℕ) → have_types t types values ≡ true → has_type t (get_or types p 0) o ≡ true → have_types t types (set values p o) ≡ true
types_set t [] [] p o h typed = refl
types_set t [] (x ∷ values) p o h typed = absurd cc
types_set t (type ∷ types) [] p o h typed = absurd cc
types_set t (type ∷ types) (x ∷ values) zero o h typed = both (has_type t type o) (have_types t types values) typed (second_of (has_type t type x) (have_types t types values) h)
types_set t (type ∷ types) (x ∷ values) (suc p) o h typed =
    both (has_type t type x) (have_types t types (set values p o)) (first_of (has_type t type x) (have_types t types values) h)
    (types_set t types values p o (second_of (has_type t type x) (have_types t types values) h) typed)

-- an object of a list has a place in it
pub any_at : (o : ℕ) (xs : List ℕ) → list_any (nat_eq o) xs ≡ true → (k : ℕ) × (k < length xs) × (get_or xs k 0 ≡ o)
any_at o [] h = absurd cc
any_at o (x ∷ xs) h = by (nat_eq o x) refl h (any_at o xs)
  where
    by : (b : Bool) → nat_eq o x ≡ b → (b || list_any (nat_eq o) xs) ≡ true → (list_any (nat_eq o) xs ≡ true → (k : ℕ) × (k < length xs) × (get_or xs k 0 ≡ o))
        → (k : ℕ) × (k < length (x ∷ xs)) × (get_or (x ∷ xs) k 0 ≡ o)
    by true e h more = (zero, omega arith, sym ((unsigned_Decides o x).0 e))
    by false e h more = let m = more h in (suc m.0, omega (arith, m.1), m.2)

-- the member at a position is among the list
pub at_any : (xs : List ℕ) (k : ℕ) → k < length xs → list_any (nat_eq (get_or xs k 0)) xs ≡ true
at_any [] k h = absurd (omega arith)
at_any (x ∷ xs) zero h = ap (λ b. b || list_any (nat_eq x) xs) ((unsigned_Decides x x).1 refl)
at_any (x ∷ xs) (suc k) h = or_true (nat_eq (get_or xs k 0) x) (list_any (nat_eq (get_or xs k 0)) xs) (at_any xs k (omega arith))
  where
    or_true : (a b : Bool) → b ≡ true → (a || b) ≡ true
    or_true true b e = refl
    or_true false b e = e

-- ## Conditions so far

-- an equality that holds holds so far
so_far_one : (given : List (Option ℕ)) (values : List ℕ) (e : EqualitySchema) → Extends values given → equality_holds values e ≡ true → equality_so_far given e ≡ true
so_far_one given values e h holds = by (object_of given e.left) refl (object_of given e.right) refl
  where
    by : (l : Option ℕ) → object_of given e.left ≡ l → (r : Option ℕ) → object_of given e.right ≡ r → equality_so_far given e ≡ true
    by None left r right = ap (λ o. equals_so_far e.is_positive o (object_of given e.right)) left
    by (Some x) left None right = (λ i. equals_so_far e.is_positive (left i) (right i))
    by (Some x) left (Some y) right =
        (λ i. equals_so_far e.is_positive (left i) (right i))
        ∙ sym (λ i. beq e.is_positive (stands_for values given e.left x h left i == stands_for values given e.right y h right i)) ∙ holds

-- one that holds so far, with both values given, holds
far_holds : (given : List (Option ℕ)) (values : List ℕ) (e : EqualitySchema) (x y : ℕ) → Extends values given → object_of given e.left ≡ Some x → object_of given e.right ≡ Some y
    → equality_so_far given e ≡ true → equality_holds values e ≡ true
far_holds given values e x y h left right holds =
    (λ i. beq e.is_positive (stands_for values given e.left x h left i == stands_for values given e.right y h right i))
    ∙ sym (λ i. equals_so_far e.is_positive (left i) (right i)) ∙ holds

-- a place that has its type has it so far
place_one : (t : Task) (given : List (Option ℕ)) (values : List ℕ) (p : Term × ℕ) → Extends values given → has_type t p.1 (value_of values p.0) ≡ true → place_so_far t given p ≡ true
place_one t given values p h typed = by (object_of given p.0) refl
  where
    by : (l : Option ℕ) → object_of given p.0 ≡ l → place_so_far t given p ≡ true
    by None is = ap (has_type_so_far t p.1) is
    by (Some o) is = ap (has_type_so_far t p.1) is ∙ ap (has_type t p.1) (sym (stands_for values given p.0 o h is)) ∙ typed

-- no condition fails at the values of an instance
pub met_so_far : (t : Task) (c : Conditions) (given : List (Option ℕ)) → HasInstanceWith t c given → meets_so_far t c given ≡ true
met_so_far t c given (values, (h, is)) =
    let met : meets t c values ≡ true = second_of (have_types t c.parameters values) (meets t c values) is in
    both (list_all (equality_so_far given) c.equalities) (list_all (place_so_far t given) c.places)
    (list_all_by (equality_holds values) (equality_so_far given) c.equalities (λ e. so_far_one given values e h)
    (first_of (list_all (equality_holds values) c.equalities) (list_all (λ (p : Term × ℕ). has_type t p.1 (value_of values p.0)) c.places) met))
    (list_all_by (λ (p : Term × ℕ). has_type t p.1 (value_of values p.0)) (place_so_far t given) c.places (λ p. place_one t given values p h)
    (second_of (list_all (equality_holds values) c.equalities) (list_all (λ (p : Term × ℕ). has_type t p.1 (value_of values p.0)) c.places) met))

-- ## All values are given

-- where all values are given they are the values
pub filled_is : (values : List ℕ) (given : List (Option ℕ)) → Extends values given → IsFilled given (length given) → values ≡ values_of given
filled_is [] [] h filled = refl
filled_is [] (g ∷ given) h filled = let e = h.long in absurd (omega (arith, e))
filled_is (x ∷ values) [] h filled = let e = h.long in absurd (omega (arith, e))
filled_is (x ∷ values) (None ∷ given) h filled = absurd (filled 0 (omega arith) refl)
filled_is (x ∷ values) (Some y ∷ given) h filled =
    let rest : values ≡ values_of given = filled_is values given
    (record { long = (let e = h.long in omega (arith, e)); has = λ p o is. h.has (suc p) o is }) (λ p below. filled (suc p) (omega (arith, below))) in
    (λ i. h.has 0 y refl i ∷ rest i)

-- a given value is the value
value_given : (given : List (Option ℕ)) (p o : ℕ) → get_or given p (Some 0) ≡ Some o → get_or (values_of given) p 0 ≡ o
value_given [] p o is = cc
value_given (None ∷ given) zero o is = absurd cc
value_given (Some y ∷ given) zero o is = cc
value_given (None ∷ given) (suc p) o is = value_given given p o is
value_given (Some y ∷ given) (suc p) o is = value_given given p o is

-- there are as many values
values_long : (given : List (Option ℕ)) → length (values_of given) ≡ length given
values_long [] = refl
values_long (g ∷ given) = ap suc (values_long given)

-- the values that are given are those of the only instance that there may be
pub all_given : (t : Task) (c : Conditions) (given : List (Option ℕ)) (values : List ℕ) → values ≡ values_of given → is_instance t c values ≡ true → IsInstanceWith t c given values
all_given t c given values at is = (subst (λ (v : List ℕ). Extends v given) (sym at) (record { long = values_long given; has = value_given given }), is)

-- where all values are given and are no instance, there is none
pub none_given : (t : Task) (c : Conditions) (given : List (Option ℕ)) (values : List ℕ) → IsFilled given (length given) → values ≡ values_of given → is_instance t c values ≡ false
    → HasInstanceWith t c given → ⊥
none_given t c given values filled at fails (v, (h, is)) =
    let clash : true ≡ false = sym is ∙ ap (is_instance t c) (filled_is v given h filled ∙ sym at) ∙ fails in absurd cc

-- one more parameter has a value
pub filled_more : (given : List (Option ℕ)) (n : ℕ) → IsFilled given n → (get_or given n (Some 0) ≡ None → ⊥) → IsFilled given (n + 1)
filled_more given n filled here p below none = by (nat_eq p n) refl
  where
    by : (b : Bool) → nat_eq p n ≡ b → ⊥
    by true e = here (ap (λ k. get_or given k (Some 0)) (sym ((unsigned_Decides p n).0 e)) ∙ none)
    by false e = filled p (let apart : p ≡ n → ⊥ = λ same. let yes : nat_eq p n ≡ true = (unsigned_Decides p n).1 same in absurd cc in omega (arith, below, apart)) none

-- and so it has after it was given one
pub filled_set : (given : List (Option ℕ)) (n o : ℕ) → n < length given → IsFilled given n → IsFilled (set given n (Some o)) (n + 1)
filled_set given n o within filled =
    filled_more (set given n (Some o)) n
    (λ p below none. filled p below (sym (get_or-set_other given n p (Some o) (Some 0) (λ same. absurd (omega (arith, same, below)))) ∙ none))
    (λ none. let clash : Some o ≡ None = sym (get_or-set_same given n (Some o) (Some 0) within) ∙ none in absurd cc)

-- ## One more value

-- an instance with one more value
pub fewer_given : (t : Task) (c : Conditions) (given : List (Option ℕ)) (p o : ℕ) → p < length given → get_or given p (Some 0) ≡ None
    → HasInstanceWith t c (set given p (Some o)) → HasInstanceWith t c given
fewer_given t c given p o within none (values, (h, is)) = (values, (((opened given p o within none values).0 h).0, is))

-- an instance has the value that is given, if it is its own
pub more_given : (t : Task) (c : Conditions) (given : List (Option ℕ)) (p o : ℕ) (values : List ℕ) → p < length given → get_or given p (Some 0) ≡ None
    → Extends values given → is_instance t c values ≡ true → get_or values p 0 ≡ o → HasInstanceWith t c (set given p (Some o))
more_given t c given p o values within none h is at = (values, ((opened given p o within none values).1 (h, at), is))

-- the objects of a parameter are among those of its type
pub has_object : (t : Task) (c : Conditions) (given : List (Option ℕ)) (p : ℕ) → length given ≡ length c.parameters → p < length given → (values : List ℕ) → Extends values given
    → is_instance t c values ≡ true → has_type t (get_or c.parameters p 0) (get_or values p 0) ≡ true
has_object t c given p long within values h is =
    type_at t c.parameters values p (first_of (have_types t c.parameters values) (meets t c values) is) (omega (arith, long, within))

-- ## Exchange

module _ (t : Task) (c : Conditions) (given : List (Option ℕ)) (p o : ℕ) (within : p < length given) (none : get_or given p (Some 0) ≡ None) where
  -- the values that are given, with one more
  abbrev more : List (Option ℕ)
  more = set given p (Some o)

  -- the values with that one extend them
  given_more : (values : List ℕ) → Extends values given → Extends (set values p o) more
  given_more values h =
      (opened given p o within none (set values p o)).1
      (record { long = length-set values p o ∙ h.long; has = λ q x is. other q x is (nat_eq q p) refl }, get_or-set_same values p o 0 (let e = h.long in omega (arith, e, within)))
    where
      other : (q x : ℕ) → get_or given q (Some 0) ≡ Some x → (b : Bool) → nat_eq q p ≡ b → get_or (set values p o) q 0 ≡ x
      other q x is true e =
          let clash : None ≡ Some x = sym none ∙ ap (λ k. get_or given k (Some 0)) (sym ((unsigned_Decides q p).0 e)) ∙ is in absurd cc
      other q x is false e =
          get_or-set_other values p q o 0 (λ same. let yes : nat_eq q p ≡ true = (unsigned_Decides q p).1 same in absurd cc) ∙ h.has q x is

  -- other terms keep what they stand for
  unchanged : (values : List ℕ) (x : Term) → is_parameter x p ≡ false → value_of (set values p o) x ≡ value_of values x
  unchanged values (parameter q) apart =
      get_or-set_other values p q o 0 (λ same. let yes : nat_eq q p ≡ true = (unsigned_Decides q p).1 same in absurd cc)
  unchanged values (object x) apart = refl

  -- a term without an object is another parameter
  open_apart : (x : Term) → object_of more x ≡ None → is_parameter x p ≡ false
  open_apart (object x) is = refl
  open_apart (parameter q) is = by (nat_eq q p) refl
    where
      by : (b : Bool) → nat_eq q p ≡ b → nat_eq q p ≡ false
      by true e =
          let clash : Some o ≡ None = sym (get_or-set_same given p (Some o) (Some 0) within) ∙ ap (λ k. get_or more k (Some 0)) (sym ((unsigned_Decides q p).0 e)) ∙ is in absurd cc
      by false e = e

  -- an equality that doesn't tie the parameter stays true
  equality_kept : (values : List ℕ) (e : EqualitySchema) → Extends values given → ties more p e ≡ false → equality_so_far more e ≡ true → equality_holds values e ≡ true
      → equality_holds (set values p o) e ≡ true
  equality_kept values e h untied so_far holds = by (object_of more e.left) refl (object_of more e.right) refl
    where
      same : is_parameter e.left p ≡ false → is_parameter e.right p ≡ false → equality_holds (set values p o) e ≡ true
      same left right = (λ i. beq e.is_positive (nat_eq (unchanged values e.left left i) (unchanged values e.right right i))) ∙ holds

      left_free : object_of more e.right ≡ None → is_parameter e.left p ≡ false
      left_free is =
          not_and (is_parameter e.left p)
          (ap (λ (r : Option ℕ). is_parameter e.left p && not (is_some r)) (sym is)
          ∙ neither_first (is_parameter e.left p && not (is_some (object_of more e.right))) (is_parameter e.right p && not (is_some (object_of more e.left))) untied)

      right_free : object_of more e.left ≡ None → is_parameter e.right p ≡ false
      right_free is =
          not_and (is_parameter e.right p)
          (ap (λ (r : Option ℕ). is_parameter e.right p && not (is_some r)) (sym is)
          ∙ neither_second (is_parameter e.left p && not (is_some (object_of more e.right))) (is_parameter e.right p && not (is_some (object_of more e.left))) untied)

      by : (l : Option ℕ) → object_of more e.left ≡ l → (r : Option ℕ) → object_of more e.right ≡ r → equality_holds (set values p o) e ≡ true
      by None left r right = same (open_apart e.left left) (right_free left)
      by (Some x) left None right = same (left_free right) (open_apart e.right right)
      by (Some x) left (Some y) right = far_holds more (set values p o) e x y (given_more values h) left right so_far

  -- and so do equalities
  equalities_kept : (values : List ℕ) (es : List EqualitySchema) → Extends values given → list_any (ties more p) es ≡ false → list_all (equality_so_far more) es ≡ true
      → list_all (equality_holds values) es ≡ true → list_all (equality_holds (set values p o)) es ≡ true
  equalities_kept values [] h untied so_far holds = refl
  equalities_kept values (e ∷ es) h untied so_far holds =
      both (equality_holds (set values p o) e) (list_all (equality_holds (set values p o)) es)
      (equality_kept values e h (neither_first (ties more p e) (list_any (ties more p) es) untied) (first_of (equality_so_far more e) (list_all (equality_so_far more) es) so_far)
      (first_of (equality_holds values e) (list_all (equality_holds values) es) holds))
      (equalities_kept values es h (neither_second (ties more p e) (list_any (ties more p) es) untied) (second_of (equality_so_far more e) (list_all (equality_so_far more) es) so_far)
      (second_of (equality_holds values e) (list_all (equality_holds values) es) holds))

  -- a place that has its type so far keeps it
  place_kept : (values : List ℕ) (q : Term × ℕ) → Extends values given → place_so_far t more q ≡ true → has_type t q.1 (value_of values q.0) ≡ true
      → has_type t q.1 (value_of (set values p o) q.0) ≡ true
  place_kept values q h so_far typed = by (object_of more q.0) refl
    where
      by : (l : Option ℕ) → object_of more q.0 ≡ l → has_type t q.1 (value_of (set values p o) q.0) ≡ true
      by None is = ap (has_type t q.1) (unchanged values q.0 (open_apart q.0 is)) ∙ typed
      by (Some x) is = ap (has_type t q.1) (stands_for (set values p o) more q.0 x (given_more values h) is) ∙ sym (ap (has_type_so_far t q.1) is) ∙ so_far

  -- and so do places
  places_kept : (values : List ℕ) (places : List (Term × ℕ)) → Extends values given → list_all (place_so_far t more) places ≡ true
      → list_all (λ q. has_type t q.1 (value_of values q.0)) places ≡ true → list_all (λ q. has_type t q.1 (value_of (set values p o) q.0)) places ≡ true
  places_kept values [] h so_far typed = refl
  places_kept values (q ∷ places) h so_far typed =
      let Typed : List ℕ → Term × ℕ → Bool = λ v r. has_type t r.1 (value_of v r.0) in
      both (Typed (set values p o) q) (list_all (Typed (set values p o)) places)
      (place_kept values q h (first_of (place_so_far t more q) (list_all (place_so_far t more) places) so_far) (first_of (Typed values q) (list_all (Typed values) places) typed))
      (places_kept values places h (second_of (place_so_far t more q) (list_all (place_so_far t more) places) so_far) (second_of (Typed values q) (list_all (Typed values) places) typed))

  -- so the parameter may have any object that is allowed, where nothing ties it
  pub exchanged : list_any (ties more p) c.equalities ≡ false → meets_so_far t c more ≡ true → has_type t (get_or c.parameters p 0) o ≡ true → HasInstanceWith t c given → HasInstanceWith t c more
  exchanged untied so_far typed (values, (h, is)) =
      let met : meets t c values ≡ true = second_of (have_types t c.parameters values) (meets t c values) is in
      let Typed : List ℕ → Term × ℕ → Bool = λ v r. has_type t r.1 (value_of v r.0) in (
        set values p o,
        (
          given_more values h,
          both (have_types t c.parameters (set values p o)) (meets t c (set values p o))
              (types_set t c.parameters values p o (first_of (have_types t c.parameters values) (meets t c values) is) typed)
              (both (list_all (equality_holds (set values p o)) c.equalities) (list_all (Typed (set values p o)) c.places)
              (equalities_kept values c.equalities h untied (first_of (list_all (equality_so_far more) c.equalities) (list_all (place_so_far t more) c.places) so_far)
              (first_of (list_all (equality_holds values) c.equalities) (list_all (Typed values) c.places) met))
              (places_kept values c.places h (second_of (list_all (equality_so_far more) c.equalities) (list_all (place_so_far t more) c.places) so_far)
              (second_of (list_all (equality_holds values) c.equalities) (list_all (Typed values) c.places) met))),
        ),
      )

-- ## Objects in turn

-- where a condition fails so far there is no instance
pub fails_so_far : (t : Task) (c : Conditions) (given : List (Option ℕ)) → meets_so_far t c given ≡ false → HasInstanceWith t c given → ⊥
fails_so_far t c given fails h = let clash : true ≡ false = sym (met_so_far t c given h) ∙ fails in absurd cc

module _ (t : Task) (c : Conditions) (given : List (Option ℕ)) (p : ℕ) (objects : List ℕ) (within : p < length given) (none : get_or given p (Some 0) ≡ None) where
  -- no instance has one of the first so many objects
  abbrev pub NoneOf : ℕ → Type 0
  NoneOf n = (values : List ℕ) → Extends values given → is_instance t c values ≡ true → (j : ℕ) → j < n → get_or values p 0 ≡ get_or objects j 0 → ⊥

  -- one more object of which there is none
  pub none_more : (n : ℕ) → NoneOf n → (HasInstanceWith t c (set given p (Some (get_or objects n 0))) → ⊥) → NoneOf (n + 1)
  none_more n before here values h is j below at = by (nat_eq j n) refl
    where
      by : (b : Bool) → nat_eq j n ≡ b → ⊥
      by true e = here (more_given t c given p (get_or objects n 0) values within none h is (at ∙ ap (λ k. get_or objects k 0) ((unsigned_Decides j n).0 e)))
      by false e =
          let apart : j ≡ n → ⊥ = λ same. let yes : nat_eq j n ≡ true = (unsigned_Decides j n).1 same in absurd cc in
          before values h is j (omega (arith, below, apart)) at

  -- where there is none of any object there is none
  pub none_at_all : length given ≡ length c.parameters → objects ≡ objects_of t (get_or c.parameters p 0) → NoneOf (length objects) → HasInstanceWith t c given → ⊥
  none_at_all long are tried (values, (h, is)) =
      let found = any_at (get_or values p 0) objects (ap (list_any (nat_eq (get_or values p 0))) are ∙ has_object t c given p long within values h is) in
      tried values h is found.0 found.1 (sym found.2)

  -- a parameter that isn't tied may have the object, so where there is no instance with that, there is none
  pub none_untied : (n : ℕ) → n < length objects → objects ≡ objects_of t (get_or c.parameters p 0) → list_any (ties (set given p (Some (get_or objects n 0))) p) c.equalities ≡ false
      → meets_so_far t c (set given p (Some (get_or objects n 0))) ≡ true → (HasInstanceWith t c (set given p (Some (get_or objects n 0))) → ⊥) → HasInstanceWith t c given → ⊥
  none_untied n below are untied so_far fails h =
      fails (exchanged t c given p (get_or objects n 0) within none untied so_far (ap (list_any (nat_eq (get_or objects n 0))) (sym are) ∙ at_any objects n below) h)

  -- an instance with one value more is one with those before
  pub kept_instance : (o : ℕ) (values : List ℕ) → IsInstanceWith t c (set given p (Some o)) values → IsInstanceWith t c given values
  kept_instance o values (h, is) = (((opened given p o within none values).0 h).0, is)

  -- what was found with one more value is so with those given
  pub returned : (n : ℕ) → n < length objects → objects ≡ objects_of t (get_or c.parameters p 0) → meets_so_far t c (set given p (Some (get_or objects n 0))) ≡ true → (found : Option (List ℕ))
      → MatchOption found (HasInstanceWith t c (set given p (Some (get_or objects n 0))) → ⊥) (IsInstanceWith t c (set given p (Some (get_or objects n 0))))
      → (is_some found ≡ false → list_any (ties (set given p (Some (get_or objects n 0))) p) c.equalities ≡ false)
      → MatchOption found (HasInstanceWith t c given → ⊥) (IsInstanceWith t c given)
  returned n below are so_far None h untied = none_untied n below are (untied refl) so_far h
  returned n below are so_far (Some values) h untied = kept_instance (get_or objects n 0) values h

-- where nothing was found there is none
pub none_found : (P : Type 0) (Q : List ℕ → Type 0) (found : Option (List ℕ)) → MatchOption found P Q → is_some found ≡ false → P
none_found P Q None h e = h
none_found P Q (Some values) h e = absurd cc

-- whether something was found tells whether there is something
pub found_tells : (P : List ℕ → Type 0) (found : Option (List ℕ)) (b : Bool) → b ≡ is_some found → MatchOption found ((values : List ℕ) × P values → ⊥) P → (b ≡ true) ↔ ((values : List ℕ) × P values)
found_tells P None b is h = (λ e. let clash : true ≡ false = sym e ∙ is in absurd cc, λ some. absurd (h some))
found_tells P (Some values) b is h = (λ e. (values, h), λ some. is)

-- within a list it makes no difference what would stand past it
pub any_default : {X : Type 0} (xs : List X) (i : ℕ) (d e : X) → i < length xs → get_or xs i d ≡ get_or xs i e
any_default [] i d e h = absurd (omega arith)
any_default (x ∷ xs) zero d e h = refl
any_default (x ∷ xs) (suc i) d e h = any_default xs i d e (omega arith)

-- a parameter without a value is open
pub opened_at : (given : List (Option ℕ)) (n : ℕ) (d : Option ℕ) → n < length given → false ≡ is_some (get_or given n d) → get_or given n (Some 0) ≡ None
opened_at given n d below e = any_default given n (Some 0) d below ∙ nothing (get_or given n d) e
  where
    nothing : (o : Option ℕ) → false ≡ is_some o → o ≡ None
    nothing None e = refl
    nothing (Some x) e = absurd cc
