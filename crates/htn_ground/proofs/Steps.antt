-- Steps of the loops that gather and narrow.
use Rattle.std.proofs.Common.{◌≡◌, ◌+◌, ◌<◌, ◌≤◌, ◌∙◌, ◌++◌, ◌∷◌, ◌&&◌, Bool, List, [], ap, append-nil, append_assoc, arith, cond, drop, drop-cons, add-one, false, filter, get_or, length, length-take-le, map, refl, suc, sym, take, true, zero, ℕ}
use Rattle.std.specs.List.{zip}
use Rattle.std.proofs.lemmas.List.{map-append, take_more, length-map}
use Rattle.std.proofs.lemmas.List.Elements.{filter-append}
use Rattle.htn_model.specs.Schema.{Term, object}
use Rattle.htn_task.specs.declared.term.Term.{Term as RustTerm}
use Rattle.htn_task.specs.Views.{term_of, terms_of}
use Rattle.htn_model.specs.Task.{Task, has_type, objects_of}
use Rattle.htn_model.specs.Instances.{domains_of, have_types, is_among}
use Rattle.htn_ground.specs.Places.{among, pinned}
use Rattle.htn_ground.specs.Search.{narrowed}

-- ## Narrowing

-- one list more is narrowed
narrowed-append : (test : ℕ → ℕ → Bool) (j : ℕ) (xs : List (List ℕ)) (x : List ℕ) → narrowed test j (xs ++ x ∷ []) ≡ narrowed test j xs ++ filter (test (j + length xs)) x ∷ []
narrowed-append test j [] x = let e : j ≡ j + 0 = omega arith in ap (λ k. filter (test k) x ∷ []) e
narrowed-append test j (y ∷ ys) x =
    let e : (j + 1) + length ys ≡ j + length (y ∷ ys) = omega arith in
    ap (λ l. filter (test j) y ∷ l) (narrowed-append test (j + 1) ys x ∙ ap (λ k. narrowed test (j + 1) ys ++ filter (test k) x ∷ []) e)

-- the list of the next type is narrowed
pub narrowed_more : (t : Task) (test : ℕ → ℕ → Bool) (types : List ℕ) (i : ℕ) → i < length types
    → narrowed test 0 (domains_of t (take (i + 1) types)) ≡ narrowed test 0 (domains_of t (take i types)) ++ filter (test i) (objects_of t (get_or types i 0)) ∷ []
narrowed_more t test types i below =
    let long : 0 + length (domains_of t (take i types)) ≡ i = omega (arith, length-map (take i types) (objects_of t), length-take-le i types (omega arith)) in
    ap (λ (l : List ℕ). narrowed test 0 (domains_of t l)) (take_more types i 0 below)
    ∙ ap (narrowed test 0) (map-append (objects_of t) (take i types) (get_or types i 0 ∷ []))
    ∙ narrowed-append test 0 (domains_of t (take i types)) (objects_of t (get_or types i 0))
    ∙ ap (λ k. narrowed test 0 (domains_of t (take i types)) ++ filter (test k) (objects_of t (get_or types i 0)) ∷ []) long

-- the next object is kept where it passes
pub kept_more : (p : ℕ → Bool) (objects : List ℕ) (i : ℕ) (done next : List ℕ) → i < length objects → done ≡ filter p (take i objects)
    → next ≡ done ++ cond (p (get_or objects i 0)) (get_or objects i 0 ∷ []) [] → next ≡ filter p (take (i + 1) objects)
kept_more p objects i done next below so_far pushed =
    pushed ∙ ap (λ l. l ++ cond (p (get_or objects i 0)) (get_or objects i 0 ∷ []) []) so_far
    ∙ sym (filter-append p (take i objects) (get_or objects i 0 ∷ []))
    ∙ ap (filter p) (sym (take_more objects i 0 below))

-- ## Places

-- places of two lists are kept each
pub among-append : (count : ℕ) (xs ys : List (Term × ℕ)) → among count (xs ++ ys) ≡ among count xs ++ among count ys
among-append count xs ys = filter-append (λ (p : Term × ℕ). is_among count p.0) xs ys

-- the next term beside its type, if there is one
zip_next : {X Y : Type 0} (f : X → Y) (xs : List X) (types : List ℕ) (i : ℕ) (d : X) → i < length xs → i < length types
    → zip (map f (take (suc i) xs)) types ≡ zip (map f (take i xs)) types ++ (f (get_or xs i d), get_or types i 0) ∷ []
zip_next f [] types i d below within = absurd (omega arith)
zip_next f (x ∷ xs) [] i d below within = absurd (omega arith)
zip_next f (x ∷ xs) (k ∷ types) zero d below within = refl
zip_next f (x ∷ xs) (k ∷ types) (suc i) d below within = ap (λ l. (f x, k) ∷ l) (zip_next f xs types i d (omega arith) (omega arith))

-- past the types no place is added
zip_end : {X Y : Type 0} (f : X → Y) (xs : List X) (types : List ℕ) (i : ℕ) → i < length xs → length types ≤ i → zip (map f (take (suc i) xs)) types ≡ zip (map f (take i xs)) types
zip_end f [] types i below past = absurd (omega arith)
zip_end f (x ∷ xs) [] zero below past = refl
zip_end f (x ∷ xs) [] (suc i) below past = refl
zip_end f (x ∷ xs) (k ∷ types) zero below past = absurd (omega arith)
zip_end f (x ∷ xs) (k ∷ types) (suc i) below past = ap (λ l. (f x, k) ∷ l) (zip_end f xs types i (omega arith) (omega arith))

-- the next place is kept
pub place_kept : (count : ℕ) (terms : List RustTerm) (types : List ℕ) (i : ℕ) (d : RustTerm) (type : ℕ) (start done next : List (Term × ℕ)) → i < length terms → i < length types
    → type ≡ get_or types i 0 → true ≡ is_among count (term_of (get_or terms i d))
    → done ≡ start ++ among count (zip (terms_of (take i terms)) types) → next ≡ done ++ (term_of (get_or terms i d), type) ∷ []
    → next ≡ start ++ among count (zip (terms_of (take (i + 1) terms)) types)
place_kept count terms types i d type start done next below within typed is so_far pushed =
    let x = term_of (get_or terms i d) in
    let old = zip (terms_of (take i terms)) types in
    let one : among count ((x, get_or types i 0) ∷ []) ≡ (x, type) ∷ [] = ap (λ b. cond b ((x, get_or types i 0) ∷ []) []) (sym is) ∙ ap (λ k. (x, k) ∷ []) (sym typed) in
    pushed ∙ ap (λ l. l ++ (x, type) ∷ []) so_far ∙ append_assoc start (among count old) ((x, type) ∷ [])
    ∙ ap (λ l. start ++ (among count old ++ l)) (sym one)
    ∙ ap (λ l. start ++ l) (sym (among-append count old ((x, get_or types i 0) ∷ [])))
    ∙ ap (λ l. start ++ among count l) (sym (zip_next term_of terms types i d below within))
    ∙ ap (λ n. start ++ among count (zip (terms_of (take n terms)) types)) (sym (add-one i))

-- the next place is dropped
pub place_dropped : (count : ℕ) (terms : List RustTerm) (types : List ℕ) (i : ℕ) (d : RustTerm) (start done next : List (Term × ℕ)) → i < length terms → i < length types
    → false ≡ is_among count (term_of (get_or terms i d))
    → done ≡ start ++ among count (zip (terms_of (take i terms)) types) → next ≡ done
    → next ≡ start ++ among count (zip (terms_of (take (i + 1) terms)) types)
place_dropped count terms types i d start done next below within is so_far same =
    let x = term_of (get_or terms i d) in
    let old = zip (terms_of (take i terms)) types in
    let one : among count ((x, get_or types i 0) ∷ []) ≡ [] = ap (λ b. cond b ((x, get_or types i 0) ∷ []) []) (sym is) in
    same ∙ so_far
    ∙ ap (λ l. start ++ l) (sym (append-nil (among count old)) ∙ ap (λ l. among count old ++ l) (sym one) ∙ sym (among-append count old ((x, get_or types i 0) ∷ [])))
    ∙ ap (λ l. start ++ among count l) (sym (zip_next term_of terms types i d below within))
    ∙ ap (λ n. start ++ among count (zip (terms_of (take n terms)) types)) (sym (add-one i))

-- the next argument has no place
pub place_missing : (count : ℕ) (terms : List RustTerm) (types : List ℕ) (i : ℕ) (start done next : List (Term × ℕ)) → i < length terms → length types ≤ i
    → done ≡ start ++ among count (zip (terms_of (take i terms)) types) → next ≡ done
    → next ≡ start ++ among count (zip (terms_of (take (i + 1) terms)) types)
place_missing count terms types i start done next below past so_far same =
    same ∙ so_far
    ∙ ap (λ l. start ++ among count l) (sym (zip_end term_of terms types i below past))
    ∙ ap (λ n. start ++ among count (zip (terms_of (take n terms)) types)) (sym (add-one i))

-- the next argument is pinned
pinned_next : (terms : List RustTerm) (objects : List ℕ) (i : ℕ) (d : RustTerm) → i < length terms → i < length objects
    → pinned (terms_of (take (suc i) terms)) objects
    ≡ pinned (terms_of (take i terms)) objects ++ record { is_positive = true; left = term_of (get_or terms i d); right = object (get_or objects i 0) } ∷ []
pinned_next [] objects i d below within = absurd (omega arith)
pinned_next (x ∷ terms) [] i d below within = absurd (omega arith)
pinned_next (x ∷ terms) (o ∷ objects) zero d below within = refl
pinned_next (x ∷ terms) (o ∷ objects) (suc i) d below within = ap (λ l. record { is_positive = true; left = term_of x; right = object o } ∷ l) (pinned_next terms objects i d (omega arith) (omega arith))

-- the arguments up to the next one are pinned
pub pinned_more : (terms : List RustTerm) (objects : List ℕ) (i : ℕ) (d : RustTerm) → i < length terms → i < length objects
    → pinned (terms_of (take (i + 1) terms)) objects
    ≡ pinned (terms_of (take i terms)) objects ++ record { is_positive = true; left = term_of (get_or terms i d); right = object (get_or objects i 0) } ∷ []
pinned_more terms objects i d below within = ap (λ n. pinned (terms_of (take n terms)) objects) (add-one i) ∙ pinned_next terms objects i d below within

-- ## Types of values

-- as many types as values are wanted
pub types_differ : (t : Task) (types values : List ℕ) → (length types ≡ length values → ⊥) → have_types t types values ≡ false
types_differ t [] [] differ = absurd (differ refl)
types_differ t [] (o ∷ values) differ = refl
types_differ t (k ∷ types) [] differ = refl
types_differ t (k ∷ types) (o ∷ values) differ =
    ap (λ b. has_type t k o && b) (types_differ t types values (λ e. differ (ap suc e))) ∙ and-false (has_type t k o)
  where
    and-false : (b : Bool) → (b && false) ≡ false
    and-false true = refl
    and-false false = refl

-- the next value has the next type, and so on
pub types_next : (t : Task) (types values : List ℕ) (i : ℕ) → i < length types → i < length values
    → have_types t (drop i types) (drop i values) ≡ (has_type t (get_or types i 0) (get_or values i 0) && have_types t (drop (i + 1) types) (drop (i + 1) values))
types_next t types values i below within =
    (λ k. have_types t ((drop-cons types i 0 below ∙ ap (λ n. get_or types i 0 ∷ drop n types) (sym (add-one i))) k) ((drop-cons values i 0 within ∙ ap (λ n. get_or values i 0 ∷ drop n values) (sym (add-one i))) k))

-- three lists of places one after another
pub three_kept : (n m : ℕ) (p0 p1 p2 p3 : List (Term × ℕ)) (a b c : List (Term × ℕ)) → n ≡ m → p0 ≡ [] → p1 ≡ p0 ++ among n a → p2 ≡ p1 ++ among n b → p3 ≡ p2 ++ among n c
    → p3 ≡ among m (a ++ b ++ c)
three_kept n m p0 p1 p2 p3 a b c same none first second third =
    third
    ∙ ap (λ l. l ++ among n c) (second ∙ ap (λ l. l ++ among n b) (first ∙ ap (λ l. l ++ among n a) none))
    ∙ ap (λ l. l ++ among n c) (sym (among-append n a b))
    ∙ sym (among-append n (a ++ b) c)
    ∙ ap (λ k. among k (a ++ b ++ c)) same

-- places that are kept of one list
pub one_kept : (n m : ℕ) (p0 p1 : List (Term × ℕ)) (a : List (Term × ℕ)) → n ≡ m → p0 ≡ [] → p1 ≡ p0 ++ among n a → p1 ≡ among m a
one_kept n m p0 p1 a same none first = first ∙ ap (λ l. l ++ among n a) none ∙ ap (λ k. among k a) same
