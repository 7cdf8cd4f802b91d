-- The completions of a partial assignment, one parameter at a time.
use Rattle.std.proofs.Common.{◌≡◌, ℕ, Bool, true, false, cond, not, ◌||◌, ◌&&◌, max, eqb, ltb, List, [], ◌∷◌, ◌++◌, map, length, drop, get_or, ◌+◌, ◌<◌, ◌≤◌, refl, sym, ap, subst, ◌∙◌, arith, append_assoc, append-nil, length-append, drop-cons, add-one}
use Rattle.std.specs.List.{filter, flat_map, All}
use Rattle.std.proofs.lemmas.Bool.Decides.{nat_tests}
use Rattle.std.proofs.lemmas.List.{map-append, get_or_append_left, drop_all}
use Rattle.std.proofs.lemmas.List.Elements.{filter-append, All-tail}
use Rattle.htn_ground.specs.declared.relation.Relation.{Relation}
use Rattle.htn_ground.specs.declared.relation.Relation.TheVariants.{Same, Different}
use Rattle.htn_model.specs.Instances.{assignments}
use Rattle.htn_ground.specs.Search.{relation_depth, relation_holds, relations_hold, AreRelationsOf, matches}
use Rattle.htn_ground.specs.Search.{bound_relations_hold, completions}

-- the place of a parameter that a relation reads
below_max : (a b n : ℕ) → max a b + 1 ≤ n → (a < n) × (b < n)
below_max a b n h = (omega arith, omega arith)

-- a relation between parameters with values does not read the others
pub relation_holds-append : (r : Relation) (values rest : List ℕ) → relation_depth r ≤ length values → relation_holds r (values ++ rest) ≡ relation_holds r values
relation_holds-append (Same a b) values rest h =
    let places = below_max a b (length values) h in
    (λ i. eqb (get_or_append_left values rest 0 a places.0 i) (get_or_append_left values rest 0 b places.1 i))
relation_holds-append (Different a b) values rest h =
    let places = below_max a b (length values) h in
    (λ i. not (eqb (get_or_append_left values rest 0 a places.0 i) (get_or_append_left values rest 0 b places.1 i)))

-- neither of two
or_false : (a b : Bool) → (a || b) ≡ false → (a ≡ false) × (b ≡ false)
or_false true b e = cc
or_false false b e = (refl, e)

-- not both, where the second isn't
and_false : (a b : Bool) → b ≡ false → (a && b) ≡ false
and_false true b e = e
and_false false b e = refl

-- no smaller, by the test
ltb_false : (m n : ℕ) → ltb m n ≡ false → n ≤ m
ltb_false m n e = grind (arith, nat_tests)

-- a relation that fails already fails of all completions
fails : (relations : List Relation) (values rest : List ℕ) → bound_relations_hold relations values ≡ false → relations_hold relations (values ++ rest) ≡ false
fails [] values rest e = e
fails (r ∷ relations) values rest e =
    elim (ltb (length values) (relation_depth r) || relation_holds r values) as (λ b. (ltb (length values) (relation_depth r) || relation_holds r values) ≡ b → (b && bound_relations_hold relations values) ≡ false → (relation_holds r (values ++ rest) && relations_hold relations (values ++ rest)) ≡ false) [
      | true ↦ λ _ f. and_false _ _ (fails relations values rest f)
      | false ↦ λ h _. let parts = or_false _ _ h in
          ap (λ b. b && relations_hold relations (values ++ rest)) (relation_holds-append r values rest (ltb_false _ _ parts.0) ∙ parts.1)
    ] refl e

-- nothing passes that begins with values that none passes with
pub filter_none : (p : List ℕ → Bool) (values : List ℕ) → ((rest : List ℕ) → p (values ++ rest) ≡ false) → (rests : List (List ℕ)) → filter p (map (λ rest. values ++ rest) rests) ≡ []
filter_none p values none [] = refl
filter_none p values none (rest ∷ rests) =
    ap (λ b. cond b ((values ++ rest) ∷ filter p (map (λ w. values ++ w) rests)) (filter p (map (λ w. values ++ w) rests))) (none rest) ∙ filter_none p values none rests

-- where a relation between values fails there are no completions
pub completions_none : (domains : List (List ℕ)) (relations : List Relation) (values : List ℕ) → bound_relations_hold relations values ≡ false → completions domains relations values ≡ []
completions_none domains relations values e =
    filter_none (relations_hold relations) values (λ rest. fails relations values rest e) (assignments (drop (length values) domains))

-- no smaller, as a test
ltb_true : (m n : ℕ) → n ≤ m → ltb m n ≡ false
ltb_true m n h = grind (arith, nat_tests)

-- where all parameters have values, the relations that are read are all
pub all_bound : (relations : List Relation) (values : List ℕ) → All (λ r. relation_depth r ≤ length values) relations → bound_relations_hold relations values ≡ relations_hold relations values
all_bound [] values of = refl
all_bound (r ∷ relations) values of =
    (λ i. (ltb_true (length values) (relation_depth r) (of 0 r (omega arith)) i || relation_holds r values) && all_bound relations values (All-tail (λ r. relation_depth r ≤ length values) r relations of) i)

-- where all parameters have values these are the one completion
pub completions_leaf : (domains : List (List ℕ)) (relations : List Relation) (values : List ℕ) → AreRelationsOf relations (length domains) → length values ≡ length domains
    → bound_relations_hold relations values ≡ true → completions domains relations values ≡ values ∷ []
completions_leaf domains relations values of long holds =
    let none : drop (length values) domains ≡ [] = drop_all (length values) domains (omega arith) in
    let here : relations_hold relations values ≡ true = sym (all_bound relations values (λ k d below. subst (λ (n : ℕ). relation_depth (get_or relations k d) ≤ n) (sym long) (of k d below))) ∙ holds in
    ap (λ (ds : List (List ℕ)). filter (relations_hold relations) (map (λ rest. values ++ rest) (assignments ds))) none
    ∙ ap (λ (v : List ℕ). filter (relations_hold relations) (v ∷ [])) (append-nil values)
    ∙ ap (λ b. cond b (values ∷ []) []) here

-- one more value before each rest
map_longer : (values : List ℕ) (object : ℕ) (rests : List (List ℕ)) → map (λ rest. values ++ rest) (map (λ rest. object ∷ rest) rests) ≡ map (λ rest. (values ++ object ∷ []) ++ rest) rests
map_longer values object [] = refl
map_longer values object (rest ∷ rests) = (λ i. sym (append_assoc values (object ∷ []) rest) i ∷ map_longer values object rests i)

-- what passes is gathered object by object
each_object : (p : List ℕ → Bool) (values : List ℕ) (rests : List (List ℕ)) (objects : List ℕ)
    → filter p (map (λ rest. values ++ rest) (flat_map (λ object. map (λ rest. object ∷ rest) rests) objects)) ≡ flat_map (λ object. filter p (map (λ rest. (values ++ object ∷ []) ++ rest) rests)) objects
each_object p values rests [] = refl
each_object p values rests (object ∷ objects) =
    let later = flat_map (λ (o : ℕ). map (λ (rest : List ℕ). o ∷ rest) rests) objects in
    ap (filter p) (map-append (λ rest. values ++ rest) (map (λ rest. object ∷ rest) rests) later)
    ∙ filter-append p (map (λ rest. values ++ rest) (map (λ rest. object ∷ rest) rests)) (map (λ rest. values ++ rest) later)
    ∙ (λ i. filter p (map_longer values object rests i) ++ each_object p values rests objects i)

-- what is gathered of equal pieces is equal
same_pieces : (f g : ℕ → List (List ℕ)) → ((o : ℕ) → f o ≡ g o) → (objects : List ℕ) → flat_map f objects ≡ flat_map g objects
same_pieces f g same [] = refl
same_pieces f g same (o ∷ objects) = (λ i. same o i ++ same_pieces f g same objects i)

-- the completions by some objects at the next parameter
pub completions_run : (domains : List (List ℕ)) (relations : List Relation) (values run : List ℕ)
    → filter (relations_hold relations) (map (λ rest. values ++ rest) (assignments (run ∷ drop (length values + 1) domains))) ≡ flat_map (λ object. completions domains relations (values ++ object ∷ [])) run
completions_run domains relations values run =
    let p = relations_hold relations in
    each_object p values (assignments (drop (length values + 1) domains)) run
    ∙ same_pieces _ _ (λ o. ap (λ (n : ℕ). filter p (map (λ rest. (values ++ o ∷ []) ++ rest) (assignments (drop n domains)))) (sym (length-append values (o ∷ [])))) run

-- the completions by the value of the next parameter
pub completions_step : (domains : List (List ℕ)) (relations : List Relation) (values domain : List ℕ) → length values < length domains → domain ≡ get_or domains (length values) domain
    → completions domains relations values ≡ flat_map (λ object. completions domains relations (values ++ object ∷ [])) domain
completions_step domains relations values domain below is =
    let p = relations_hold relations in
    let next : drop (length values) domains ≡ domain ∷ drop (length values + 1) domains = drop-cons domains (length values) domain below ∙ (λ i. sym is i ∷ drop (sym (add-one (length values)) i) domains) in
    ap (λ (ds : List (List ℕ)). filter p (map (λ rest. values ++ rest) (assignments ds))) next
    ∙ completions_run domains relations values domain

-- nothing in front changes nothing
map_same : (rests : List (List ℕ)) → map (λ rest. [] ++ rest) rests ≡ rests
map_same [] = refl
map_same (rest ∷ rests) = ap (λ l. rest ∷ l) (map_same rests)

-- the completions of nothing are all
pub completions_all : (domains : List (List ℕ)) (relations : List Relation) → completions domains relations [] ≡ matches domains relations
completions_all domains relations = ap (filter (relations_hold relations)) (map_same (assignments domains))
