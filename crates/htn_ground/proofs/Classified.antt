-- The conditions of a schema are their parts: those on no parameter, on one, and on two.
use Rattle.std.proofs.Common.{◌≡◌, ℕ, zero, suc, Bool, true, false, cond, not, ◌||◌, ◌&&◌, eqb, ltb, subst, List, [], ◌∷◌, ◌++◌, length, map, get_or, ◌+◌, ◌<◌, ◌≤◌, refl, sym, ap, ◌∙◌, arith}
use Rattle.std.specs.Bool.{beq}
use Rattle.std.specs.Cmp.{nat_eq_equiv}
use Rattle.std.specs.List.{All, AllByRecursion, filter, flat_map, list_all}
use Rattle.std.proofs.lemmas.Bool.Decides.{nat_tests}
use Rattle.std.proofs.lemmas.List.Elements.{All-append, All-cons, All-head, All-tail}
use Rattle.std.proofs.lemmas.List.Folds.{list_all-append}
use Rattle.htn_model.specs.Schema.{EqualitySchema, Term, object, parameter}
use Rattle.htn_model.specs.Task.{Task, has_type}
use Rattle.htn_model.specs.Instances.{Conditions, assignments, domains_of, equality_holds, instances, is_among, meets, value_of}
use Rattle.htn_ground.specs.declared.relation.Relation.{Relation}
use Rattle.htn_ground.specs.declared.relation.Relation.TheVariants.{Different, Same}
use Rattle.htn_ground.specs.Search.{AreAmong, AreBound, AreRelationsOf, all_relations_of, constant_of, constants_hold, each_passes, equality_singles, matches, narrowed, place_constant, place_single, place_singles, relation_depth, relation_holds, relations_hold, relations_of, single_of, singles_of}
use Rattle.htn_ground.proofs.Narrowing.{filter-assignments}

-- each value passes a test that all pass
pub always : (j : ℕ) (values : List ℕ) → each_passes (λ k o. true) j values ≡ true
always j [] = refl
always j (o ∷ values) = always (j + 1) values

module _ (q : ℕ → Bool) where
  -- beyond parameter a nothing is asked
  beyond : (a j : ℕ) → a < j → (values : List ℕ) → each_passes (λ k o. not (eqb k a) || q o) j values ≡ true
  beyond a j past [] = refl
  beyond a j past (o ∷ values) =
      let other : eqb j a ≡ false = grind (arith, nat_tests) in
      ap (λ b. (not b || q o) && each_passes (λ k x. not (eqb k a) || q x) (j + 1) values) other ∙ beyond a (j + 1) (omega arith) values

  -- a test of the object at one parameter
  pub at_parameter : (a j i : ℕ) (values : List ℕ) → j + i ≡ a → i < length values → each_passes (λ k o. not (eqb k a) || q o) j values ≡ q (get_or values i 0)
  at_parameter a j i [] e below = absurd (omega arith)
  at_parameter a j zero (o ∷ values) e below =
      let here : eqb j a ≡ true = grind (arith, nat_tests) in
      ap (λ b. (not b || q o) && each_passes (λ k x. not (eqb k a) || q x) (j + 1) values) here
      ∙ ap (λ b. q o && b) (beyond a (j + 1) (omega arith) values) ∙ and-true (q o)
    where
      and-true : (b : Bool) → (b && true) ≡ b
      and-true true = refl
      and-true false = refl
  at_parameter a j (suc i) (o ∷ values) e below =
      let other : eqb j a ≡ false = grind (arith, nat_tests) in
      ap (λ b. (not b || q o) && each_passes (λ k x. not (eqb k a) || q x) (j + 1) values) other
      ∙ at_parameter a (j + 1) i values (omega arith) (omega arith)

-- a smaller number, by the test
is_below : (n m : ℕ) → ltb m n ≡ true → m < n
is_below n m e = grind (arith, nat_tests)

-- equality the other way round
pub turned : (x y : ℕ) → eqb x y ≡ eqb y x
turned x y = nat_eq_equiv.symm x y

-- two pairs of conditions, paired anew
pub regroup : (a b c d : Bool) → ((a && b) && (c && d)) ≡ ((a && c) && (b && d))
regroup true true c d = refl
regroup true false true d = refl
regroup true false false d = refl
regroup false b c d = refl

-- two threefold conditions, part by part
spread : (a b c x y z : Bool) → ((a && (b && c)) && (x && (y && z))) ≡ ((a && x) && ((b && y) && (c && z)))
spread a b c x y z = regroup a (b && c) x (y && z) ∙ ap (λ r. (a && x) && r) (regroup b c y z)

-- a condition and a true one
and-true : (b : Bool) → b ≡ (b && true)
and-true true = refl
and-true false = refl

-- what a relation says of two places
relation_says : (positive : Bool) (a b : ℕ) (values : List ℕ) → beq positive (eqb (get_or values a 0) (get_or values b 0)) ≡ relations_hold (relations_of positive (parameter a) (parameter b)) values
relation_says true a b values = plain (eqb (get_or values a 0) (get_or values b 0))
  where
    plain : (b : Bool) → beq true b ≡ (b && true)
    plain true = refl
    plain false = refl
relation_says false a b values = turned_over (eqb (get_or values a 0) (get_or values b 0))
  where
    turned_over : (b : Bool) → beq false b ≡ (not b && true)
    turned_over true = refl
    turned_over false = refl

-- what an equality says is what its parts say
equality_parts : (positive : Bool) (left right : Term) (values : List ℕ) → is_among (length values) left ≡ true → is_among (length values) right ≡ true
    → beq positive (eqb (value_of values left) (value_of values right))
    ≡ (constant_of positive left right && (each_passes (single_of positive left right) 0 values && relations_hold (relations_of positive left right) values))
equality_parts positive (object x) (object y) values p q = and-true (beq positive (eqb x y)) ∙ ap (λ b. beq positive (eqb x y) && b) (sym (ap (λ b. b && true) (always 0 values)))
equality_parts positive (object x) (parameter b) values p q =
    ap (beq positive) (turned x (get_or values b 0)) ∙ sym (at_parameter (λ o. beq positive (eqb o x)) b 0 b values (omega arith) (is_below (length values) b q)) ∙ and-true _
equality_parts positive (parameter a) (object y) values p q =
    sym (at_parameter (λ o. beq positive (eqb o y)) a 0 a values (omega arith) (is_below (length values) a p)) ∙ and-true _
equality_parts positive (parameter a) (parameter b) values p q =
    relation_says positive a b values ∙ sym (ap (λ c. c && relations_hold (relations_of positive (parameter a) (parameter b)) values) (always 0 values))

-- values pass both tests where they pass each
pub each_passes-and : (s t : ℕ → ℕ → Bool) (j : ℕ) (values : List ℕ) → each_passes (λ k o. s k o && t k o) j values ≡ (each_passes s j values && each_passes t j values)
each_passes-and s t j [] = refl
each_passes-and s t j (o ∷ values) =
    ap (λ b. (s j o && t j o) && b) (each_passes-and s t (j + 1) values) ∙ regroup (s j o) (t j o) (each_passes s (j + 1) values) (each_passes t (j + 1) values)

-- relations of two lists hold where those of each do
relations_hold-append : (xs ys : List Relation) (values : List ℕ) → relations_hold (xs ++ ys) values ≡ (relations_hold xs values && relations_hold ys values)
relations_hold-append xs ys values = list_all-append (λ r. relation_holds r values) xs ys

-- the equalities between objects hold
abbrev constants : List EqualitySchema → Bool
constants equalities = list_all (λ e. constant_of e.is_positive e.left e.right) equalities

-- the relations between parameters
abbrev relations : List EqualitySchema → List Relation
relations equalities = flat_map (λ e. relations_of e.is_positive e.left e.right) equalities

-- equalities hold where those on no parameter, on one, and on two do
equalities_parts : (equalities : List EqualitySchema) (values : List ℕ) → All (AreAmong (length values)) equalities
    → list_all (equality_holds values) equalities
    ≡ (constants equalities && (each_passes (equality_singles equalities) 0 values && relations_hold (relations equalities) values))
equalities_parts [] values of = sym (ap (λ b. b && true) (always 0 values))
equalities_parts (e ∷ equalities) values of =
    let here : AreAmong (length values) e = All-head (AreAmong (length values)) e equalities of in
    (λ i. equality_parts e.is_positive e.left e.right values here.0 here.1 i && equalities_parts equalities values (All-tail (AreAmong (length values)) e equalities of) i)
    ∙ spread (constant_of e.is_positive e.left e.right) (each_passes (single_of e.is_positive e.left e.right) 0 values) (relations_hold (relations_of e.is_positive e.left e.right) values)
    (constants equalities) (each_passes (equality_singles equalities) 0 values) (relations_hold (relations equalities) values)
    ∙ (λ i. (constant_of e.is_positive e.left e.right && constants equalities)
    && (sym (each_passes-and (single_of e.is_positive e.left e.right) (equality_singles equalities) 0 values) i && sym (relations_hold-append (relations_of e.is_positive e.left e.right) (relations equalities) values) i))

-- a place has its type where its object or its parameter's value has
place_parts : (t : Task) (p : Term × ℕ) (values : List ℕ) → is_among (length values) p.0 ≡ true
    → has_type t p.1 (value_of values p.0) ≡ (place_constant t p && each_passes (place_single t p) 0 values)
place_parts t (object o, type) values of = and-true (has_type t type o) ∙ ap (λ b. has_type t type o && b) (sym (always 0 values))
place_parts t (parameter a, type) values of = sym (at_parameter (has_type t type) a 0 a values (omega arith) (is_below (length values) a of))

-- the same of all places
places_parts : (t : Task) (places : List (Term × ℕ)) (values : List ℕ) → All (λ p. is_among (length values) p.0 ≡ true) places
    → list_all (λ p. has_type t p.1 (value_of values p.0)) places ≡ (list_all (place_constant t) places && each_passes (place_singles t places) 0 values)
places_parts t [] values of = sym (always 0 values)
places_parts t (p ∷ places) values of =
    let Among : Term × ℕ → Type 0 = λ x. is_among (length values) x.0 ≡ true in
    (λ i. place_parts t p values (All-head Among p places of) i && places_parts t places values (All-tail Among p places of) i)
    ∙ regroup (place_constant t p) (each_passes (place_single t p) 0 values) (list_all (place_constant t) places) (each_passes (place_singles t places) 0 values)
    ∙ ap (λ b. (place_constant t p && list_all (place_constant t) places) && b) (sym (each_passes-and (place_single t p) (place_singles t places) 0 values))

-- conditions put together by how many parameters they name
shuffle : (a b r x y : Bool) → ((a && (b && r)) && (x && y)) ≡ ((a && x) && ((b && y) && r))
shuffle true true true x y = refl'
  where
    refl' : (x && y) ≡ (x && (y && true))
    refl' = ap (λ b. x && b) (and-true y)
shuffle true true false true true = refl
shuffle true true false true false = refl
shuffle true true false false y = refl
shuffle true false r true y = refl
shuffle true false r false y = refl
shuffle false b r x y = refl

-- values meet the conditions where they meet these parts
meets_parts : (t : Task) (c : Conditions) (values : List ℕ) → length values ≡ length c.parameters → AreBound c
    → meets t c values ≡ (constants_hold t c && (each_passes (singles_of t c) 0 values && relations_hold (all_relations_of c) values))
meets_parts t c values long bound =
    let equal : All (AreAmong (length values)) c.equalities = subst (λ (n : ℕ). All (AreAmong n) c.equalities) (sym long) bound.equalities in
    let placed : All (λ p. is_among (length values) p.0 ≡ true) c.places = subst (λ (n : ℕ). All (λ (p : Term × ℕ). is_among n p.0 ≡ true) c.places) (sym long) bound.places in
    (λ i. equalities_parts c.equalities values equal i && places_parts t c.places values placed i)
    ∙ shuffle (constants c.equalities) (each_passes (equality_singles c.equalities) 0 values) (relations_hold (relations c.equalities) values)
    (list_all (place_constant t) c.places) (each_passes (place_singles t c.places) 0 values)
    ∙ ap (λ b. constants_hold t c && (b && relations_hold (all_relations_of c) values)) (sym (each_passes-and (equality_singles c.equalities) (place_singles t c.places) 0 values))

-- ## The instances by the narrowed lists and the relations

-- all members of two lists
every-append : {X : Type 0} (P : X → Type 0) (xs ys : List X) → AllByRecursion P xs → AllByRecursion P ys → AllByRecursion P (xs ++ ys)
every-append P [] ys a b = b
every-append P (x ∷ xs) ys a b = (a.0, every-append P xs ys a.1 b)

-- choices with one object in front are longer by one
long_map : (n o : ℕ) (rests : List (List ℕ)) → AllByRecursion (λ v. length v ≡ n) rests → AllByRecursion (λ v. length v ≡ n + 1) (map (λ rest. o ∷ rest) rests)
long_map n o [] all = tt
long_map n o (rest ∷ rests) all = (let e : length rest ≡ n = all.0 in omega arith, long_map n o rests all.1)

-- and so with each of some objects
long_pieces : (n : ℕ) (rests : List (List ℕ)) → AllByRecursion (λ v. length v ≡ n) rests → (objects : List ℕ) → AllByRecursion (λ v. length v ≡ n + 1) (flat_map (λ o. map (λ rest. o ∷ rest) rests) objects)
long_pieces n rests all [] = tt
long_pieces n rests all (o ∷ objects) = every-append (λ v. length v ≡ n + 1) (map (λ rest. o ∷ rest) rests) _ (long_map n o rests all) (long_pieces n rests all objects)

-- an assignment has as many values as there are parameters
pub assignments_long : (domains : List (List ℕ)) → AllByRecursion (λ v. length v ≡ length domains) (assignments domains)
assignments_long [] = (refl, tt)
assignments_long (objects ∷ domains) =
    let more : length domains + 1 ≡ length (objects ∷ domains) = omega arith in
    subst (λ (n : ℕ). AllByRecursion (λ v. length v ≡ n) (assignments (objects ∷ domains))) more (long_pieces (length domains) (assignments domains) (assignments_long domains) objects)

-- tests that agree on lists of a length leave the same of these
pub filter_same : (n : ℕ) (p q : List ℕ → Bool) → ((v : List ℕ) → length v ≡ n → p v ≡ q v) → (vs : List (List ℕ)) → AllByRecursion (λ v. length v ≡ n) vs → filter p vs ≡ filter q vs
filter_same n p q same [] all = refl
filter_same n p q same (v ∷ vs) all = (λ i. cond (same v all.0 i) (v ∷ filter_same n p q same vs all.1 i) (filter_same n p q same vs all.1 i))

-- nothing passes a test that none passes
filter-false : (vs : List (List ℕ)) → filter (λ v. false) vs ≡ []
filter-false [] = refl
filter-false (v ∷ vs) = filter-false vs

-- what passes both tests passes one after the other
pub filter-and : (p q : List ℕ → Bool) (vs : List (List ℕ)) → filter (λ v. p v && q v) vs ≡ filter q (filter p vs)
filter-and p q [] = refl
filter-and p q (v ∷ vs) =
    elim (p v) as (λ b. cond (b && q v) (v ∷ filter (λ w. p w && q w) vs) (filter (λ w. p w && q w) vs) ≡ filter q (cond b (v ∷ filter p vs) (filter p vs))) [
      | true ↦ ap (λ l. cond (q v) (v ∷ l) l) (filter-and p q vs)
      | false ↦ filter-and p q vs
    ]

-- a condition on no parameter lets all pass or none
by_constant : (c : Bool) (p : List ℕ → Bool) (vs : List (List ℕ)) → filter (λ v. c && p v) vs ≡ cond c (filter p vs) []
by_constant true p vs = refl
by_constant false p vs = filter-false vs

-- there are as many images
length-map : (f : ℕ → List ℕ) (xs : List ℕ) → length (map f xs) ≡ length xs
length-map f [] = refl
length-map f (x ∷ xs) = ap suc (length-map f xs)

-- instances are the choices from narrowed lists of which all relations hold
pub instances_parts : (t : Task) (c : Conditions) → AreBound c
    → instances t c ≡ cond (constants_hold t c) (matches (narrowed (singles_of t c) 0 (domains_of t c.parameters)) (all_relations_of c)) []
instances_parts t c bound =
    let single : List ℕ → Bool = each_passes (singles_of t c) 0 in
    let related : List ℕ → Bool = relations_hold (all_relations_of c) in
    let domains = domains_of t c.parameters in
    let count : length domains ≡ length c.parameters = length-map _ c.parameters in
    filter_same (length domains) _ (λ v. constants_hold t c && (single v && related v)) (λ v long. meets_parts t c v (long ∙ count) bound) (assignments domains) (assignments_long domains)
    ∙ by_constant (constants_hold t c) (λ v. single v && related v) (assignments domains)
    ∙ ap (λ (l : List (List ℕ)). cond (constants_hold t c) l []) (filter-and single related (assignments domains) ∙ ap (filter related) (filter-assignments (singles_of t c) 0 domains))

-- ## Relations between parameters

-- the relations of an equality are between parameters of the schema
relation_bound : (n : ℕ) (positive : Bool) (left right : Term) → is_among n left ≡ true → is_among n right ≡ true → All (λ r. relation_depth r ≤ n) (relations_of positive left right)
relation_bound n positive (object x) right p q = λ k d below. absurd (omega arith)
relation_bound n positive (parameter a) (object y) p q = λ k d below. absurd (omega arith)
relation_bound n true (parameter a) (parameter b) p q =
    let first : a < n = is_below n a p in
    let second : b < n = is_below n b q in
    All-cons (λ r. relation_depth r ≤ n) (Same a b) [] (omega arith) (λ k d below. absurd (omega arith))
relation_bound n false (parameter a) (parameter b) p q =
    let first : a < n = is_below n a p in
    let second : b < n = is_below n b q in
    All-cons (λ r. relation_depth r ≤ n) (Different a b) [] (omega arith) (λ k d below. absurd (omega arith))

-- and so are those of equalities
pub relations_bound : (n : ℕ) (equalities : List EqualitySchema) → All (AreAmong n) equalities → AreRelationsOf (flat_map (λ e. relations_of e.is_positive e.left e.right) equalities) n
relations_bound n [] of = λ k d below. absurd (omega arith)
relations_bound n (e ∷ equalities) of =
    let here : AreAmong n e = All-head (AreAmong n) e equalities of in
    All-append (λ r. relation_depth r ≤ n) (relations_of e.is_positive e.left e.right) (relations equalities) (relation_bound n e.is_positive e.left e.right here.0 here.1) (relations_bound n equalities (All-tail (AreAmong n) e equalities of))

-- narrowing leaves as many lists
pub length-narrowed : (test : ℕ → ℕ → Bool) (j : ℕ) (domains : List (List ℕ)) → length (narrowed test j domains) ≡ length domains
length-narrowed test j [] = refl
length-narrowed test j (objects ∷ domains) = ap suc (length-narrowed test (j + 1) domains)
