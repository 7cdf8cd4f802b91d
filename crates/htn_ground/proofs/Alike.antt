-- At a parameter where no relation starts, the objects that all relations allow have equally many completions, and the
-- others have none.
use Rattle.std.proofs.Common.{◌≡◌, ℕ, zero, suc, Bool, true, false, true≢false, cond, not, ◌||◌, ◌&&◌, ◌⊎◌, inl, inr, min, eqb, List, [], ◌∷◌, ◌++◌, map, length, drop, get_or, ◌+◌, ◌*◌, ◌<◌, ◌≤◌, refl, sym, ap, ◌∙◌, arith, append-nil, length-append, ltb}
use Rattle.std.specs.Bool.{beq}
use Rattle.std.specs.List.{filter, flat_map}
use Rattle.std.proofs.lemmas.Bool.Decides.{nat_tests}
use Rattle.std.proofs.lemmas.List.Elements.{filter_agree}
use Rattle.htn_model.specs.Instances.{assignments}
use Rattle.htn_ground.specs.declared.relation.Relation.{Relation}
use Rattle.htn_ground.specs.declared.relation.Relation.TheVariants.{Different, Same}
use Rattle.htn_ground.specs.Search.{AreRelationsOf, bound_relations_hold, completions, relation_depth, relation_holds, relation_single, relation_singles, relation_start, relations_hold, single_of, some_starts_at, term_after}
use Rattle.htn_ground.proofs.Apart.{known, relation_apart, relation_names, unknown}
use Rattle.htn_ground.proofs.Classified.{turned}
use Rattle.htn_ground.proofs.Completions.{completions_leaf, filter_none, relation_holds-append}

-- ## A choice by its parts: values, an object, the rest

-- values, one object more, and the rest
abbrev whole : List ℕ → ℕ → List ℕ → List ℕ
whole values o rest = (values ++ o ∷ []) ++ rest

-- the object stands behind the values
at_object : (values rest : List ℕ) (o : ℕ) → get_or (whole values o rest) (length values) 0 ≡ o
at_object [] rest o = refl
at_object (v ∷ values) rest o = at_object values rest o

-- the values stand before it
at_value : (values rest : List ℕ) (o k : ℕ) → k < length values → get_or (whole values o rest) k 0 ≡ get_or values k 0
at_value [] rest o k below = absurd (omega arith)
at_value (v ∷ values) rest o zero below = refl
at_value (v ∷ values) rest o (suc k) below = at_value values rest o k (omega arith)

-- elsewhere another object makes no difference
at_other : (values rest : List ℕ) (o p k : ℕ) → (k ≡ length values → ⊥) → get_or (whole values o rest) k 0 ≡ get_or (whole values p rest) k 0
at_other [] rest o p zero other = absurd (other refl)
at_other [] rest o p (suc k) other = refl
at_other (v ∷ values) rest o p zero other = refl
at_other (v ∷ values) rest o p (suc k) other = at_other values rest o p k (λ e. other (ap suc e))

-- ## One relation

-- equal numbers, as a test
is_same : (m n : ℕ) → m ≡ n → eqb n m ≡ true
is_same m n e = grind (arith, nat_tests)

module _ (positive : Bool) (a b : ℕ) (values rest : List ℕ) (o : ℕ) where
  -- the parameter that gets an object
  abbrev n : ℕ
  n = length values

  -- what the equality says of an object there
  abbrev test : ℕ → ℕ → Bool
  test = single_of positive (term_after values a) (term_after values b)

  -- an equality of a parameter with value and the one of the object
  named : (min a b ≡ n → ⊥) → (a ≡ n) ⊎ (b ≡ n) → beq positive (eqb (get_or (whole values o rest) a 0) (get_or (whole values o rest) b 0)) ≡ test n o
  named other (inl e) =
      let below : b < n = omega arith in
      (λ i. beq positive (eqb ((ap (λ k. get_or (whole values o rest) k 0) e ∙ at_object values rest o) i) (at_value values rest o b below i)))
      ∙ sym (ap (λ c. not c || beq positive (eqb o (get_or values b 0))) (is_same a n e))
      ∙ (λ i. single_of positive (sym (unknown values a (omega arith)) i) (sym (known values b below) i) n o)
  named other (inr e) =
      let below : a < n = omega arith in
      (λ i. beq positive (eqb (at_value values rest o a below i) ((ap (λ k. get_or (whole values o rest) k 0) e ∙ at_object values rest o) i)))
      ∙ ap (beq positive) (turned (get_or values a 0) o)
      ∙ sym (ap (λ c. not c || beq positive (eqb o (get_or values a 0))) (is_same b n e))
      ∙ (λ i. single_of positive (sym (known values a below) i) (sym (unknown values b (omega arith)) i) n o)

-- a test against true
beq_true : (b : Bool) → b ≡ beq true b
beq_true true = refl
beq_true false = refl

-- a test against false
beq_false : (b : Bool) → not b ≡ beq false b
beq_false true = refl
beq_false false = refl

-- equal numbers, by the test
is_equal : (m n : ℕ) → eqb m n ≡ true → m ≡ n
is_equal m n e = grind (arith, nat_tests)

-- different numbers, by the test
differs : (m n : ℕ) → eqb m n ≡ false → m ≡ n → ⊥
differs m n e is = true≢false (sym (is_same n m (sym is)) ∙ e)

-- neither of two
or_false : (a b : Bool) → (a || b) ≡ false → (a ≡ false) × (b ≡ false)
or_false true b e = absurd (true≢false e)
or_false false b e = (refl, e)

-- one of two numbers is this one
either : (a b n : ℕ) → (eqb a n || eqb b n) ≡ true → (a ≡ n) ⊎ (b ≡ n)
either a b n e = elim (eqb a n) as (λ c. eqb a n ≡ c → (c || eqb b n) ≡ true → (a ≡ n) ⊎ (b ≡ n)) [
  | true ↦ λ f _. inl (is_equal a n f)
  | false ↦ λ _ f. inr (is_equal b n f)
] refl e

-- neither of two numbers is this one
neither : (a b n : ℕ) → (eqb a n || eqb b n) ≡ false → (a ≡ n → ⊥) × (b ≡ n → ⊥)
neither a b n e =
    let parts = or_false (eqb a n) (eqb b n) e in
    (differs a n parts.0, differs b n parts.1)

-- a relation that names the object's parameter holds where it allows the object
holds_named : (r : Relation) (values rest : List ℕ) (o : ℕ) → (relation_start r ≡ length values → ⊥) → relation_names r (length values) ≡ true
    → relation_holds r (whole values o rest) ≡ relation_single values r (length values) o
holds_named (Same a b) values rest o other names = beq_true _ ∙ named true a b values rest o other (either a b (length values) names)
holds_named (Different a b) values rest o other names = beq_false _ ∙ named false a b values rest o other (either a b (length values) names)

-- one that does not name it does not read the object
holds_apart : (r : Relation) (values rest : List ℕ) (o p : ℕ) → relation_names r (length values) ≡ false → relation_holds r (whole values o rest) ≡ relation_holds r (whole values p rest)
holds_apart (Same a b) values rest o p apart =
    let others = neither a b (length values) apart in
    λ i. eqb (at_other values rest o p a others.0 i) (at_other values rest o p b others.1 i)
holds_apart (Different a b) values rest o p apart =
    let others = neither a b (length values) apart in
    λ i. not (eqb (at_other values rest o p a others.0 i) (at_other values rest o p b others.1 i))

-- a relation that doesn't start here holds alike for objects that it allows
holds_alike : (r : Relation) (values rest : List ℕ) (o p : ℕ) → (relation_start r ≡ length values → ⊥) → relation_single values r (length values) o ≡ true → relation_single values r (length values) p ≡ true
    → relation_holds r (whole values o rest) ≡ relation_holds r (whole values p rest)
holds_alike r values rest o p other so sp = elim (relation_names r (length values)) as (λ b. relation_names r (length values) ≡ b → relation_holds r (whole values o rest) ≡ relation_holds r (whole values p rest)) [
  | true ↦ λ e. holds_named r values rest o other e ∙ so ∙ sym sp ∙ sym (holds_named r values rest p other e)
  | false ↦ λ e. holds_apart r values rest o p e
] refl

-- and fails for those that it doesn't
holds_not : (r : Relation) (values rest : List ℕ) (o : ℕ) → (relation_start r ≡ length values → ⊥) → relation_single values r (length values) o ≡ false → relation_holds r (whole values o rest) ≡ false
holds_not r values rest o other so = elim (relation_names r (length values)) as (λ b. relation_names r (length values) ≡ b → relation_holds r (whole values o rest) ≡ false) [
  | true ↦ λ e. holds_named r values rest o other e ∙ so
  | false ↦ λ e. absurd (true≢false (sym (relation_apart r values (length values) o (ap not e)) ∙ so))
] refl

-- ## All relations

-- none of the relations starts here
starts_other : (m n : ℕ) (b : Bool) → (eqb m n || b) ≡ false → (m ≡ n → ⊥) × (b ≡ false)
starts_other m n b e =
    let parts = or_false (eqb m n) b e in
    (differs m n parts.0, parts.1)

-- the first of both
and_first : (a b : Bool) → (a && b) ≡ true → a ≡ true
and_first true b e = refl
and_first false b e = cc

-- the second of both
and_second : (a b : Bool) → (a && b) ≡ true → b ≡ true
and_second true b e = e
and_second false b e = cc

-- where none of the relations starts here, all hold alike for objects that all allow
pub all_alike : (relations : List Relation) (values rest : List ℕ) (o p : ℕ) → some_starts_at relations (length values) ≡ false
    → relation_singles relations values (length values) o ≡ true → relation_singles relations values (length values) p ≡ true
    → relations_hold relations (whole values o rest) ≡ relations_hold relations (whole values p rest)
all_alike [] values rest o p starts so sp = refl
all_alike (r ∷ relations) values rest o p starts so sp =
    let others = starts_other (relation_start r) (length values) (some_starts_at relations (length values)) starts in
    λ i. holds_alike r values rest o p others.0 (and_first _ _ so) (and_first _ _ sp) i && all_alike relations values rest o p others.1 (and_second _ _ so) (and_second _ _ sp) i

-- and some fails for an object that not all allow
all_fail : (relations : List Relation) (values rest : List ℕ) (o : ℕ) → some_starts_at relations (length values) ≡ false
    → relation_singles relations values (length values) o ≡ false → relations_hold relations (whole values o rest) ≡ false
all_fail [] values rest o starts so = so
all_fail (r ∷ relations) values rest o starts so =
    let others = starts_other (relation_start r) (length values) (some_starts_at relations (length values)) starts in
    elim (relation_single values r (length values) o) as (λ b. relation_single values r (length values) o ≡ b → (b && relation_singles relations values (length values) o) ≡ false
    → (relation_holds r (whole values o rest) && relations_hold relations (whole values o rest)) ≡ false) [
      | true ↦ λ _ later. and_false (relation_holds r (whole values o rest)) _ (all_fail relations values rest o others.1 later)
      | false ↦ λ here _. ap (λ b. b && relations_hold relations (whole values o rest)) (holds_not r values rest o others.0 here)
    ] refl so
  where
    and_false : (a b : Bool) → b ≡ false → (a && b) ≡ false
    and_false true b e = e
    and_false false b e = refl

-- ## One value more

-- one of two, by the first
or_first : (a b : Bool) → a ≡ true → (a || b) ≡ true
or_first true b e = refl
or_first false b e = cc

-- one of two, by the second
or_last : (a b : Bool) → b ≡ true → (a || b) ≡ true
or_last true b e = refl
or_last false b e = e

-- no smaller, by the test
at_most : (m n : ℕ) → ltb m n ≡ false → n ≤ m
at_most m n e = grind (arith, nat_tests)

-- a smaller number, as a test
below : (m n : ℕ) → m < n → ltb m n ≡ true
below m n h = grind (arith, nat_tests)

-- what lies beyond one place and isn't the next lies beyond the next
deeper : (m n k : ℕ) → k ≡ m + 1 → (n ≡ m + 1 → ⊥) → ltb m n ≡ true → ltb k n ≡ true
deeper m n k is other e = below k n (past (is_below m n e))
  where
    is_below : (m n : ℕ) → ltb m n ≡ true → m < n
    is_below m n e = grind (arith, nat_tests)

    past : m < n → k < n
    past h = omega (arith, is, other, h)

-- a relation that does not name a parameter does not end there
depth_other : (r : Relation) (n : ℕ) → relation_names r n ≡ false → relation_depth r ≡ n + 1 → ⊥
depth_other (Same a b) n apart e =
    let left : (a ≡ n → ⊥) = (neither a b n apart).0 in
    let right : (b ≡ n → ⊥) = (neither a b n apart).1 in
    omega (arith, e, left, right)
depth_other (Different a b) n apart e =
    let left : (a ≡ n → ⊥) = (neither a b n apart).0 in
    let right : (b ≡ n → ⊥) = (neither a b n apart).1 in
    omega (arith, e, left, right)

-- one value more
length_longer : (values : List ℕ) (o : ℕ) → length (values ++ o ∷ []) ≡ length values + 1
length_longer values o = omega (arith, length-append values (o ∷ []))

-- a relation that doesn't name the parameter stays as it was
bound_apart : (r : Relation) (values : List ℕ) (o : ℕ) (b : Bool) → relation_names r (length values) ≡ false → ltb (length values) (relation_depth r) ≡ b → (b || relation_holds r values) ≡ true
    → (ltb (length (values ++ o ∷ [])) (relation_depth r) || relation_holds r (values ++ o ∷ [])) ≡ true
bound_apart r values o true apart deep holds = or_first _ _ (deeper (length values) (relation_depth r) (length (values ++ o ∷ [])) (length_longer values o) (depth_other r (length values) apart) deep)
bound_apart r values o false apart low holds = or_last _ _ (relation_holds-append r values (o ∷ []) (at_most (length values) (relation_depth r) low) ∙ holds)

-- a relation that doesn't start here is decided by its one object
bound_one : (r : Relation) (values : List ℕ) (o : ℕ) → (relation_start r ≡ length values → ⊥) → (ltb (length values) (relation_depth r) || relation_holds r values) ≡ true → relation_single values r (length values) o ≡ true
    → (ltb (length (values ++ o ∷ [])) (relation_depth r) || relation_holds r (values ++ o ∷ [])) ≡ true
bound_one r values o other holds so =
    elim (relation_names r (length values)) as (λ b. relation_names r (length values) ≡ b → (ltb (length (values ++ o ∷ [])) (relation_depth r) || relation_holds r (values ++ o ∷ [])) ≡ true) [
      | true ↦ λ e. or_last _ _ (ap (relation_holds r) (sym (append-nil (values ++ o ∷ []))) ∙ holds_named r values [] o other e ∙ so)
      | false ↦ λ e. bound_apart r values o (ltb (length values) (relation_depth r)) e refl holds
    ] refl

-- an object that all relations allow leaves those hold that have values
bound_more : (relations : List Relation) (values : List ℕ) (o : ℕ) → some_starts_at relations (length values) ≡ false → bound_relations_hold relations values ≡ true
    → relation_singles relations values (length values) o ≡ true → bound_relations_hold relations (values ++ o ∷ []) ≡ true
bound_more [] values o starts holds so = refl
bound_more (r ∷ relations) values o starts holds so =
    let others = starts_other (relation_start r) (length values) (some_starts_at relations (length values)) starts in
    λ i. bound_one r values o others.0 (and_first _ _ holds) (and_first _ _ so) i && bound_more relations values o others.1 (and_second _ _ holds) (and_second _ _ so) i

-- ## Counting

-- as many images pass as members whose images do
length-filter-map : (p : List ℕ → Bool) (f : List ℕ → List ℕ) (xs : List (List ℕ)) → length (filter p (map f xs)) ≡ length (filter (λ x. p (f x)) xs)
length-filter-map p f [] = refl
length-filter-map p f (x ∷ xs) =
    elim (p (f x)) as (λ b. length (cond b (f x ∷ filter p (map f xs)) (filter p (map f xs))) ≡ length (cond b (x ∷ filter (λ y. p (f y)) xs) (filter (λ y. p (f y)) xs))) [
      | true ↦ ap (λ n. suc n) (length-filter-map p f xs)
      | false ↦ length-filter-map p f xs
    ]

module _ (domains : List (List ℕ)) (relations : List Relation) (values : List ℕ) (starts : some_starts_at relations (length values) ≡ false) where
  -- all relations allow the object here
  abbrev allows : ℕ → Bool
  allows = relation_singles relations values (length values)

  -- the completions with an object here
  abbrev by : ℕ → List (List ℕ)
  by o = completions domains relations (values ++ o ∷ [])

  -- what may follow it
  abbrev rests : ℕ → List (List ℕ)
  rests o = assignments (drop (length (values ++ o ∷ [])) domains)

  -- the same may follow each object
  same_rests : (o p : ℕ) → rests o ≡ rests p
  same_rests o p = ap (λ m. assignments (drop m domains)) (length-append values (o ∷ []) ∙ sym (length-append values (p ∷ [])))

  -- objects that are allowed have equally many completions
  by_alike : (o p : ℕ) → allows o ≡ true → allows p ≡ true → length (by o) ≡ length (by p)
  by_alike o p so sp =
      length-filter-map (relations_hold relations) (λ rest. whole values o rest) (rests o)
      ∙ ap length (filter_agree (λ rest. relations_hold relations (whole values o rest)) (λ rest. relations_hold relations (whole values p rest)) (λ rest. all_alike relations values rest o p starts so sp) (rests o))
      ∙ ap (λ (l : List (List ℕ)). length (filter (λ rest. relations_hold relations (whole values p rest)) l)) (same_rests o p)
      ∙ sym (length-filter-map (relations_hold relations) (λ rest. whole values p rest) (rests p))

  -- those that aren't have none
  pub by_none : (o : ℕ) → allows o ≡ false → by o ≡ []
  by_none o so = filter_none (relations_hold relations) (values ++ o ∷ []) (λ rest. all_fail relations values rest o starts so) (rests o)

  -- so a run has as many as it has allowed objects, times those of one
  pub run_alike : (p : ℕ) → allows p ≡ true → (run : List ℕ) → length (flat_map by run) ≡ length (filter allows run) * length (by p)
  run_alike p sp [] = omega arith
  run_alike p sp (o ∷ run) =
      elim (allows o) as (λ b. allows o ≡ b → length (by o ++ flat_map by run) ≡ length (cond b (o ∷ filter allows run) (filter allows run)) * length (by p)) [
        | true ↦ λ e. length-append (by o) (flat_map by run) ∙ (λ i. by_alike o p e sp i + run_alike p sp run i) ∙ one_more (length (by p)) (length (filter allows run))
        | false ↦ λ e. ap (λ l. length (l ++ flat_map by run)) (by_none o e) ∙ run_alike p sp run
      ] refl
    where
      one_more : (each count : ℕ) → each + count * each ≡ suc count * each
      one_more each count = grind arith

  -- and none where none is allowed
  pub run_none : (run : List ℕ) → filter allows run ≡ [] → length (flat_map by run) ≡ 0
  run_none [] none = refl
  run_none (o ∷ run) none =
      elim (allows o) as (λ b. allows o ≡ b → cond b (o ∷ filter allows run) (filter allows run) ≡ [] → length (by o ++ flat_map by run) ≡ 0) [
        | true ↦ λ _ f. absurd cc
        | false ↦ λ e f. ap (λ l. length (l ++ flat_map by run)) (by_none o e) ∙ run_none run f
      ] refl none

  -- one of the objects that are allowed stands for all of them
  pub counted_once : (p allowed each : ℕ) (run longer : List ℕ) → allows p ≡ true → allowed ≡ length (filter allows run) → longer ≡ values ++ p ∷ []
      → each ≡ length (completions domains relations longer) → allowed * each ≡ length (flat_map by run)
  counted_once p allowed each run longer sp many pushed size =
      (λ i. many i * (size ∙ ap (λ (v : List ℕ). length (completions domains relations v)) pushed) i) ∙ sym (run_alike p sp run)

  -- at the last parameter each object that is allowed has one completion
  pub counted_last : (p allowed : ℕ) (run : List ℕ) → AreRelationsOf relations (length domains) → length values + 1 ≡ length domains → bound_relations_hold relations values ≡ true
      → allows p ≡ true → allowed ≡ length (filter allows run) → allowed ≡ length (flat_map by run)
  counted_last p allowed run of last holds sp many =
      let one : length (by p) ≡ 1 = ap length (completions_leaf domains relations (values ++ p ∷ []) of (length_longer values p ∙ last) (bound_more relations values p starts holds sp)) in
      many ∙ once (length (filter allows run)) (length (by p)) one ∙ sym (run_alike p sp run)
    where
      same : (m : ℕ) → m ≡ m * 1
      same m = omega arith

      once : (m n : ℕ) → n ≡ 1 → m ≡ m * n
      once m n e = same m ∙ ap (λ k. m * k) (sym e)
