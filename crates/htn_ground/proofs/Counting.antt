-- How many completions there are, and which of them are live.
use Rattle.std.proofs.Common.{◌≡◌, ℕ, Bool, true, false, cond, not, ◌||◌, ◌&&◌, ltb, leb, List, [], ◌∷◌, ◌++◌, map, length, take, drop, get_or, ◌+◌, ◌-◌, ◌*◌, ◌<◌, ◌≤◌, refl, sym, ap, ◌∙◌, arith, append_assoc, append-nil, length-append, add-one, drop-cons}
use Rattle.std.proofs.Math.Nat.{mul_assoc}
use Rattle.std.specs.List.{filter, flat_map, list_all, enumerate_from}
use Rattle.std.proofs.lemmas.Bool.Decides.{nat_tests}
use Rattle.std.proofs.lemmas.List.{length-map, get_or_append_left, take_more, take_all, take-append-le}
use Rattle.std.proofs.lemmas.List.Concat.{flat_map-append}
use Rattle.std.proofs.lemmas.List.Elements.{All-tail, filter-append}
use Rattle.htn_model.specs.State.{State}
use Rattle.htn_ground.specs.declared.relation.Relation.{Relation}
use Rattle.htn_ground.specs.declared.fixed.FixedLiteral.{FixedLiteral}
use Rattle.htn_model.specs.Literal.{atom, literal_holds}
use Rattle.htn_model.specs.Schema.{Term, object, parameter}
use Rattle.htn_model.specs.Instances.{assignments, is_among, value_of}
use Rattle.htn_task.specs.Views.{terms_of}
use Rattle.htn_ground.specs.Search.{relations_hold}
use Rattle.htn_ground.specs.Search.{product}
use Rattle.htn_ground.specs.Search.{fixed_holds, is_bound, AreLiteralsOf, is_ruled_out, is_ruled_out_so_far, live_from}

-- ## counting

-- as many choices as objects times those of the rest
length_pieces : (rests : List (List ℕ)) (objects : List ℕ) → length (flat_map (λ item. map (λ rest. item ∷ rest) rests) objects) ≡ length objects * length rests
length_pieces rests [] = omega arith
length_pieces rests (item ∷ objects) =
    length-append (map (λ rest. item ∷ rest) rests) _
    ∙ (λ i. length-map rests (λ (rest : List ℕ). item ∷ rest) i + length_pieces rests objects i)
    ∙ grind arith

-- the number of assignments is the product of the lists' lengths
pub length-assignments : (domains : List (List ℕ)) → length (assignments domains) ≡ product domains
length-assignments [] = refl
length-assignments (objects ∷ domains) = length_pieces (assignments domains) objects ∙ ap (λ n. length objects * n) (length-assignments domains)

-- the first of both
and_first : (a b : Bool) → (a && b) ≡ true → a ≡ true
and_first true b e = refl
and_first false b e = cc

-- the second of both
and_second : (a b : Bool) → (a && b) ≡ true → b ≡ true
and_second true b e = e
and_second false b e = cc

-- no greater, by the test
leb_true : (m n : ℕ) → leb m n ≡ true → m ≤ n
leb_true m n e = grind (arith, nat_tests)

-- no smaller, as a test
not_below : (m n : ℕ) → n ≤ m → ltb m n ≡ false
not_below m n h = grind (arith, nat_tests)

-- a loop's step: one more list
pub product_more : (domains : List (List ℕ)) (i count size next : ℕ) (domain : List ℕ) → i < length domains → domain ≡ get_or domains i domain → size ≡ length domain → next ≡ count * size
    → count * product (drop i domains) ≡ product domains → next * product (drop (i + 1) domains) ≡ product domains
product_more domains i count size next domain below is long times whole =
    let here : drop i domains ≡ domain ∷ drop (i + 1) domains = drop-cons domains i domain below ∙ (λ k. sym is k ∷ drop (sym (add-one i) k) domains) in
    ap (λ n. n * product (drop (i + 1) domains)) (times ∙ ap (λ n. count * n) long)
    ∙ mul_assoc count (length domain) (product (drop (i + 1) domains))
    ∙ sym (ap (λ ds. count * product ds) here) ∙ whole

-- ## literals

module _ (state : State) where
  -- terms that have values have the same with more
  same_arguments : (values rest : List ℕ) (terms : List Term) → list_all (is_among (length values)) terms ≡ true → map (value_of (values ++ rest)) terms ≡ map (value_of values) terms
  same_arguments values rest [] bound = refl
  same_arguments values rest (parameter p ∷ terms) bound =
      let below : p < length values = is_below (length values) p (and_first _ _ bound) in
      (λ i. get_or_append_left values rest 0 p below i ∷ same_arguments values rest terms (and_second _ _ bound) i)
    where
      is_below : (n m : ℕ) → ltb m n ≡ true → m < n
      is_below n m e = grind (arith, nat_tests)
  same_arguments values rest (object o ∷ terms) bound = ap (λ l. o ∷ l) (same_arguments values rest terms bound)

  -- a literal that has all its values holds just so with more
  fixed_holds-append : (values rest : List ℕ) (l : FixedLiteral) → is_bound (length values) l ≡ true → fixed_holds state (values ++ rest) l ≡ fixed_holds state values l
  fixed_holds-append values rest l bound =
      ap (λ (arguments : List ℕ). literal_holds state (atom l.is_positive (record { predicate = l.predicate; arguments = arguments }))) (same_arguments values rest (terms_of l.arguments.items) bound)

  -- a literal that is false already rules out all completions
  pub dead_more : (literals : List FixedLiteral) (values rest : List ℕ) → is_ruled_out_so_far state literals values ≡ true → is_ruled_out state literals (values ++ rest) ≡ true
  dead_more [] values rest dead = dead
  dead_more (l ∷ literals) values rest dead =
      elim (is_bound (length values) l && not (fixed_holds state values l)) as (λ b. (is_bound (length values) l && not (fixed_holds state values l)) ≡ b → (b || is_ruled_out_so_far state literals values) ≡ true → (not (fixed_holds state (values ++ rest) l) || is_ruled_out state literals (values ++ rest)) ≡ true) [
        | true ↦ λ here _.
            ap (λ b. not b || is_ruled_out state literals (values ++ rest)) (fixed_holds-append values rest l (and_first _ _ here))
            ∙ ap (λ b. b || is_ruled_out state literals (values ++ rest)) (and_second _ _ here)
        | false ↦ λ _ later. or_later _ _ (dead_more literals values rest later)
      ] refl dead
    where
      or_later : (a b : Bool) → b ≡ true → (a || b) ≡ true
      or_later true b e = refl
      or_later false b e = e

  -- with all values, ruled out so far is ruled out
  dead_whole : (literals : List FixedLiteral) (values : List ℕ) → AreLiteralsOf literals (length values) → is_ruled_out_so_far state literals values ≡ is_ruled_out state literals values
  dead_whole [] values of = refl
  dead_whole (l ∷ literals) values of =
      (λ i. (of 0 l (omega arith) i && not (fixed_holds state values l)) || dead_whole literals values (All-tail (λ m. is_bound (length values) m ≡ true) l literals of) i)

  -- ## live assignments and their numbers

  -- numbers of two lists go on
  enumerate_append : (n : ℕ) (xs ys : List (List ℕ)) → enumerate_from n (xs ++ ys) ≡ enumerate_from n xs ++ enumerate_from (n + length xs) ys
  enumerate_append n [] ys = let e : n ≡ n + 0 = omega arith in ap (λ m. enumerate_from m ys) e
  enumerate_append n (x ∷ xs) ys =
      let e : (n + 1) + length xs ≡ n + length (x ∷ xs) = omega arith in
      ap (λ l. (n, x) ∷ l) (enumerate_append (n + 1) xs ys ∙ ap (λ m. enumerate_from (n + 1) xs ++ enumerate_from m ys) e)

  module _ (literals : List FixedLiteral) where
    -- the live ones of two lists, with their numbers
    pub live_from-append : (n : ℕ) (xs ys : List (List ℕ)) → live_from state literals n (xs ++ ys) ≡ live_from state literals n xs ++ live_from state literals (n + length xs) ys
    live_from-append n xs ys =
        ap (filter (λ p. not (is_ruled_out state literals p.1))) (enumerate_append n xs ys)
        ∙ filter-append (λ (p : ℕ × List ℕ). not (is_ruled_out state literals p.1)) (enumerate_from n xs) (enumerate_from (n + length xs) ys)

    -- completions of dead values are dead
    pub live_none : (n : ℕ) (relations : List Relation) (values : List ℕ) → is_ruled_out_so_far state literals values ≡ true → (rests : List (List ℕ))
        → live_from state literals n (filter (relations_hold relations) (map (λ rest. values ++ rest) rests)) ≡ []
    live_none n relations values dead [] = refl
    live_none n relations values dead (rest ∷ rests) =
        let more = filter (relations_hold relations) (map (λ (w : List ℕ). values ++ w) rests) in
        elim (relations_hold relations (values ++ rest)) as (λ b. live_from state literals n (cond b ((values ++ rest) ∷ more) more) ≡ []) [
          | true ↦
              ap (λ b. cond (not b) ((n, values ++ rest) ∷ live_from state literals (n + 1) more) (live_from state literals (n + 1) more)) (dead_more literals values rest dead)
              ∙ live_none (n + 1) relations values dead rests
          | false ↦ live_none n relations values dead rests
        ]

    -- values that are not ruled out are live
    pub live_leaf : (n : ℕ) (values : List ℕ) → AreLiteralsOf literals (length values) → is_ruled_out_so_far state literals values ≡ false
        → live_from state literals n (values ∷ []) ≡ (n, values) ∷ []
    live_leaf n values of live = ap (λ b. cond (not b) ((n, values) ∷ []) []) (sym (dead_whole literals values of) ∙ live)

    -- a loop's step: the completions by one more item
    pub live_more : (f : ℕ → List (List ℕ)) (objects : List ℕ) (i item : ℕ) (first now next : ℕ) (start done more : List (ℕ × List ℕ)) → i < length objects → item ≡ get_or objects i 0
        → done ≡ start ++ live_from state literals first (flat_map f (take i objects)) → now ≡ first + length (flat_map f (take i objects))
        → more ≡ done ++ live_from state literals now (f item) → next ≡ now + length (f item)
        → (more ≡ start ++ live_from state literals first (flat_map f (take (i + 1) objects))) × (next ≡ first + length (flat_map f (take (i + 1) objects)))
    live_more f objects i item first now next start done more below is so_far number pushed counted =
        let pieces : flat_map f (take (i + 1) objects) ≡ flat_map f (take i objects) ++ f item =
        ap (flat_map f) (take_more objects i 0 below) ∙ flat_map-append f (take i objects) (get_or objects i 0 ∷ [])
        ∙ ap (λ l. flat_map f (take i objects) ++ l) (append-nil (f (get_or objects i 0)) ∙ ap f (sym is)) in
        let long : length (flat_map f (take (i + 1) objects)) ≡ length (flat_map f (take i objects)) + length (f item) = ap length pieces ∙ length-append (flat_map f (take i objects)) (f item) in (
          pushed ∙ (λ k. so_far k ++ live_from state literals (number k) (f item))
              ∙ append_assoc start _ _
              ∙ ap (λ l. start ++ l) (sym (live_from-append first (flat_map f (take i objects)) (f item)))
              ∙ ap (λ l. start ++ live_from state literals first l) (sym pieces),
          omega arith,
        )

-- what is left after a push and a pop
pub popped : (values longer after : List ℕ) (item : ℕ) → longer ≡ values ++ item ∷ [] → after ≡ take (length longer - 1) longer → after ≡ values
popped values longer after item pushed taken =
    let long : length longer - 1 ≡ length values = omega (arith, ap length pushed, length-append values (item ∷ [])) in
    taken ∙ (λ i. take (long i) (pushed i))
    ∙ take-append-le (length values) values (item ∷ []) (omega arith) ∙ take_all (length values) values (omega arith)
