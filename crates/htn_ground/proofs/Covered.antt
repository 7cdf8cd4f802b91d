-- Completions whose networks others have.
use Rattle.std.proofs.Common.{◌≡◌, ◌∙◌, ◌+◌, ◌++◌, ◌-◌, ◌<◌, ◌≤◌, ◌||◌, ◌∷◌, Bool, List, [], ap, append_assoc, arith, cond, drop, false, get_or, leb, length, length-append, length-drop, map, refl, subst, suc, sym, take, true, zero, ℕ}
use Rattle.std.specs.List.{All, Contains, filter, flat_map}
use Rattle.std.proofs.Math.Seq.{take-add}
use Rattle.std.proofs.lemmas.Bool.Decides.{nat_tests}
use Rattle.std.proofs.lemmas.List.{get_or-drop, get_or-take, length-take, take_all}
use Rattle.std.proofs.lemmas.List.Concat.{flat_map-append}
use Rattle.std.proofs.lemmas.List.Elements.{All-tail}
use Rattle.htn_model.specs.Equality.{network_eq-decides}
use Rattle.htn_model.specs.Instance.{Instance}
use Rattle.htn_model.specs.Instances.{assignments}
use Rattle.htn_model.specs.Problem.{Network}
use Rattle.htn_model.specs.State.{State}
use Rattle.htn_ground.specs.declared.fixed.FixedLiteral.{FixedLiteral}
use Rattle.htn_ground.specs.declared.relation.Relation.{Relation}
use Rattle.htn_ground.specs.Distinct.{gathered, same_network}
use Rattle.htn_ground.specs.Search.{completions, is_ruled_out_so_far, relation_singles, relations_hold, some_starts_at}
use Rattle.htn_ground.specs.Shown.{AreHiddenFrom, Ignores}
use Rattle.htn_ground.proofs.Alike.{all_alike, by_none}
use Rattle.htn_ground.proofs.Counting.{dead_more}
use Rattle.htn_ground.proofs.Gathered.{Each, Each-append, gathered-append, gathered_join, none_passes, seen, seen-append, seen_more}
use Rattle.htn_ground.proofs.Lists.{flat_map_more}

-- one of two, by the first
or_first : (a b : Bool) → a ≡ true → (a || b) ≡ true
or_first a b e = ap (λ c. c || b) e

-- one of two, by the second
or_last : (a b : Bool) → b ≡ true → (a || b) ≡ true
or_last true b e = refl
or_last false b e = e

-- a list is cut in two
split_at : (n : ℕ) (xs : List ℕ) → n ≤ length xs → xs ≡ take n xs ++ drop n xs
split_at zero xs h = refl
split_at (suc n) [] h = absurd (omega arith)
split_at (suc n) (x ∷ xs) h = ap (λ l. x ∷ l) (split_at n xs (omega arith))

module _ (state : State) (literals : List FixedLiteral) (shown : List Bool) (passes : Network → Bool) (make : List ℕ → Instance) (ignores : Ignores state literals shown passes make) where
  -- the network at values
  abbrev net : List ℕ → Network
  net values = (make values).network

  -- one with the network of a member was seen
  one_seen : (xs : List (List ℕ)) (x y : List ℕ) → Contains xs x → net x ≡ net y → seen passes make xs y ≡ true
  one_seen [] x y (k, below, is) e = absurd (omega arith)
  one_seen (z ∷ xs) x y (zero, below, is) e = or_first _ _ ((network_eq-decides (net z) (net y)).1 (ap net is ∙ e))
  one_seen (z ∷ xs) x y (suc k, below, is) e = or_last (same_network (make z) (make y)) _ (one_seen xs x y (k, omega arith, is) e)

  -- ## Dead choices

  -- no completion of values that are ruled out passes
  dead_each : (relations : List Relation) (values : List ℕ) → is_ruled_out_so_far state literals values ≡ true → (rests : List (List ℕ))
      → Each passes make (λ y. passes (net y) ≡ false) (filter (relations_hold relations) (map (λ rest. values ++ rest) rests))
  dead_each relations values dead [] = tt
  dead_each relations values dead (rest ∷ rests) =
      let more = filter (relations_hold relations) (map (λ (w : List ℕ). values ++ w) rests) in
      elim (relations_hold relations (values ++ rest)) as (λ b. Each passes make (λ y. passes (net y) ≡ false) (cond b ((values ++ rest) ∷ more) more)) [
        | true ↦ (ignores.ruled_out (values ++ rest) (dead_more state literals values rest dead), dead_each relations values dead rests)
        | false ↦ dead_each relations values dead rests
      ]

  module _ (domains : List (List ℕ)) (relations : List Relation) where
    -- values that are ruled out have no completions that pass
    pub dead_none : (kept : List Instance) (start : List (List ℕ)) (values : List ℕ) → is_ruled_out_so_far state literals values ≡ true
        → gathered passes make kept start ≡ gathered passes make kept (start ++ completions domains relations values)
    dead_none kept start values dead =
        sym (gathered-append passes make kept start (completions domains relations values)
        ∙ none_passes passes make (gathered passes make kept start) (completions domains relations values) (dead_each relations values dead (assignments (drop (length values) domains))))

    module _ (values : List ℕ) where
      abbrev pieces : ℕ → List (List ℕ)
      pieces object = completions domains relations (values ++ object ∷ [])

      dead_pieces : (run : List ℕ) → All (λ o. is_ruled_out_so_far state literals (values ++ o ∷ []) ≡ true) run → Each passes make (λ y. passes (net y) ≡ false) (flat_map pieces run)
      dead_pieces [] dead = tt
      dead_pieces (o ∷ run) dead =
          Each-append passes make (λ y. passes (net y) ≡ false) (pieces o) (flat_map pieces run)
          (dead_each relations (values ++ o ∷ []) (dead 0 o (omega arith)) (assignments (drop (length (values ++ o ∷ [])) domains)))
          (dead_pieces run (All-tail (λ x. is_ruled_out_so_far state literals (values ++ x ∷ []) ≡ true) o run dead))

      -- a loop's step: a run that is skipped
      pub skipped : (objects : List ℕ) (from to : ℕ) (kept : List Instance) (start : List (List ℕ)) → from ≤ to → to ≤ length objects
          → ((k d : ℕ) → from ≤ k → k < to → is_ruled_out_so_far state literals (values ++ get_or objects k d ∷ []) ≡ true)
          → gathered passes make kept (start ++ flat_map pieces (take from objects)) ≡ gathered passes make kept (start ++ flat_map pieces (take to objects))
      skipped objects from to kept start order small dead =
          let run = take (to - from) (drop from objects) in
          let long : from + (to - from) ≡ to = omega arith in
          let split : flat_map pieces (take to objects) ≡ flat_map pieces (take from objects) ++ flat_map pieces run =
          ap (λ n. flat_map pieces (take n objects)) (sym long) ∙ ap (flat_map pieces) (take-add from (to - from) objects) ∙ flat_map-append pieces (take from objects) run in
          sym (ap (λ l. gathered passes make kept (start ++ l)) split
          ∙ ap (gathered passes make kept) (sym (append_assoc start (flat_map pieces (take from objects)) (flat_map pieces run)))
          ∙ gathered-append passes make kept (start ++ flat_map pieces (take from objects)) (flat_map pieces run)
          ∙ none_passes passes make (gathered passes make kept (start ++ flat_map pieces (take from objects))) (flat_map pieces run) (dead_pieces run all))
        where
          all : All (λ o. is_ruled_out_so_far state literals (values ++ o ∷ []) ≡ true) (take (to - from) (drop from objects))
          all k d inside =
              let short : k < to - from = omega (arith, inside, length-take (to - from) (drop from objects)) in
              let is : get_or (take (to - from) (drop from objects)) k d ≡ get_or objects (from + k) d = get_or-take (to - from) (drop from objects) k d short ∙ get_or-drop from objects k d in
              ap (λ o. is_ruled_out_so_far state literals (values ++ o ∷ [])) is ∙ dead (from + k) d (omega arith) (omega arith)

      -- a loop's step: the completions by one more object
      pub grown : (objects : List ℕ) (i object : ℕ) (kept : List Instance) (start done new : List (List ℕ)) → i < length objects → object ≡ get_or objects i object
          → ((k : List Instance) → gathered passes make k done ≡ gathered passes make k (start ++ flat_map pieces (take i objects)))
          → ((k : List Instance) → gathered passes make k new ≡ gathered passes make k (done ++ pieces object))
          → gathered passes make kept new ≡ gathered passes make kept (start ++ flat_map pieces (take (i + 1) objects))
      grown objects i object kept start done new below is so_far pushed =
          gathered_join passes make kept start done new (flat_map pieces (take i objects)) (pieces object) so_far pushed
          ∙ ap (λ l. gathered passes make kept (start ++ l)) (sym (flat_map_more pieces objects i object below is))

      -- the rest of the objects adds nothing, where what it gives was seen
      pub rest_seen : (objects : List ℕ) (n : ℕ) (kept : List Instance) (start : List (List ℕ)) → n ≤ length objects
          → Each passes make (λ y. seen passes make (flat_map pieces (take n objects)) y ≡ true) (flat_map pieces (drop n objects))
          → gathered passes make kept (start ++ flat_map pieces (take n objects)) ≡ gathered passes make kept (start ++ flat_map pieces objects)
      rest_seen objects n kept start small all =
          sym (ap (λ l. gathered passes make kept (start ++ flat_map pieces l)) (split_at n objects small)
          ∙ ap (λ l. gathered passes make kept (start ++ l)) (flat_map-append pieces (take n objects) (drop n objects))
          ∙ ap (gathered passes make kept) (sym (append_assoc start (flat_map pieces (take n objects)) (flat_map pieces (drop n objects))))
          ∙ seen_more passes make kept (start ++ flat_map pieces (take n objects)) (flat_map pieces (drop n objects)) (later (flat_map pieces (drop n objects)) all))
        where
          later : (ys : List (List ℕ)) → Each passes make (λ y. seen passes make (flat_map pieces (take n objects)) y ≡ true) ys
              → Each passes make (λ y. seen passes make (start ++ flat_map pieces (take n objects)) y ≡ true) ys
          later [] all = tt
          later (y ∷ ys) all = (seen-append passes make start (flat_map pieces (take n objects)) y ∙ or_last (seen passes make start y) _ all.0, later ys all.1)

      -- ## Where one object stands for all

      hidden_one : get_or shown (length values) true ≡ false → (o p : ℕ) (rest : List ℕ) → net ((values ++ o ∷ []) ++ rest) ≡ net ((values ++ p ∷ []) ++ rest)
      hidden_one hidden o p rest = ap net (append_assoc values (o ∷ []) rest) ∙ ignores.hidden values rest o p hidden ∙ sym (ap net (append_assoc values (p ∷ []) rest))

      kept_in : (o : ℕ) (rests : List (List ℕ)) (rest : List ℕ) → Contains rests rest → relations_hold relations ((values ++ o ∷ []) ++ rest) ≡ true
          → Contains (filter (relations_hold relations) (map (λ w. (values ++ o ∷ []) ++ w) rests)) ((values ++ o ∷ []) ++ rest)
      kept_in o [] rest (k, below, is) holds = absurd (omega arith)
      kept_in o (w ∷ rests) rest (zero, below, is) holds =
          let more = filter (relations_hold relations) (map (λ (v : List ℕ). (values ++ o ∷ []) ++ v) rests) in
          let here : relations_hold relations ((values ++ o ∷ []) ++ w) ≡ true = ap (λ v. relations_hold relations ((values ++ o ∷ []) ++ v)) is ∙ holds in
          subst (λ (l : List (List ℕ)). Contains l ((values ++ o ∷ []) ++ rest)) (sym (ap (λ b. cond b (((values ++ o ∷ []) ++ w) ∷ more) more) here))
          (zero, omega arith, ap (λ v. (values ++ o ∷ []) ++ v) is)
      kept_in o (w ∷ rests) rest (suc k, below, is) holds =
          let more = filter (relations_hold relations) (map (λ (v : List ℕ). (values ++ o ∷ []) ++ v) rests) in
          let there = kept_in o rests rest (k, omega arith, is) holds in
          elim (relations_hold relations ((values ++ o ∷ []) ++ w)) as (λ b. Contains (cond b (((values ++ o ∷ []) ++ w) ∷ more) more) ((values ++ o ∷ []) ++ rest)) [
            | true ↦ (suc there.0, omega (arith, there.1), there.2)
            | false ↦ there
          ]

      -- what another object gives was seen
      other_seen : (starts : some_starts_at relations (length values) ≡ false) → get_or shown (length values) true ≡ false → (o p : ℕ) → relation_singles relations values (length values) o ≡ true
          → Each passes make (λ y. seen passes make (pieces o) y ≡ true) (pieces p)
      other_seen starts hidden o p so =
          elim (relation_singles relations values (length values) p) as (λ b. relation_singles relations values (length values) p ≡ b → Each passes make (λ y. seen passes make (pieces o) y ≡ true) (pieces p)) [
            | true ↦ λ sp. walk sp (rests p) (λ rest there. there)
            | false ↦ λ sp. subst (λ (l : List (List ℕ)). Each passes make (λ y. seen passes make (pieces o) y ≡ true) l) (sym (by_none domains relations values starts p sp)) tt
          ] refl
        where
          rests : ℕ → List (List ℕ)
          rests q = assignments (drop (length (values ++ q ∷ [])) domains)

          same_rests : (q r : ℕ) → rests q ≡ rests r
          same_rests q r = ap (λ m. assignments (drop m domains)) (length-append values (q ∷ []) ∙ sym (length-append values (r ∷ [])))

          walk : relation_singles relations values (length values) p ≡ true → (some : List (List ℕ)) → ((rest : List ℕ) → Contains some rest → Contains (rests p) rest)
              → Each passes make (λ y. seen passes make (pieces o) y ≡ true) (filter (relations_hold relations) (map (λ w. (values ++ p ∷ []) ++ w) some))
          walk sp [] within = tt
          walk sp (rest ∷ some) within =
              let more = filter (relations_hold relations) (map (λ (v : List ℕ). (values ++ p ∷ []) ++ v) some) in
              let next = walk sp some (λ r there. within r (suc there.0, omega (arith, there.1), there.2)) in
              elim (relations_hold relations ((values ++ p ∷ []) ++ rest)) as (λ b. relations_hold relations ((values ++ p ∷ []) ++ rest) ≡ b
              → Each passes make (λ y. seen passes make (pieces o) y ≡ true) (cond b (((values ++ p ∷ []) ++ rest) ∷ more) more)) [
                | true ↦ λ holds. (
                  one_seen (pieces o) ((values ++ o ∷ []) ++ rest) ((values ++ p ∷ []) ++ rest)
                      (kept_in o (rests o) rest (subst (λ (l : List (List ℕ)). Contains l rest) (same_rests p o) (within rest (zero, omega arith, refl)))
                      (all_alike relations values rest o p starts so sp ∙ holds))
                      (hidden_one hidden o p rest),
                  next,
                )
                | false ↦ λ _. next
              ] refl

      -- a loop's step: the rest of the objects, where one that is allowed stands for all
      pub one_for_all : some_starts_at relations (length values) ≡ false → get_or shown (length values) true ≡ false → (objects : List ℕ) (i object : ℕ) → i < length objects → object ≡ get_or objects i object
          → relation_singles relations values (length values) object ≡ true → (kept : List Instance) (start : List (List ℕ))
          → gathered passes make kept (start ++ flat_map pieces (take (i + 1) objects)) ≡ gathered passes make kept (start ++ flat_map pieces objects)
      one_for_all starts hidden objects i object below is so kept start = rest_seen objects (i + 1) kept start (omega arith) (each (drop (i + 1) objects))
        where
          found : List (List ℕ)
          found = flat_map pieces (take (i + 1) objects)

          lift : (ys : List (List ℕ)) → Each passes make (λ y. seen passes make (pieces object) y ≡ true) ys → Each passes make (λ y. seen passes make found y ≡ true) ys
          lift [] all = tt
          lift (y ∷ ys) all = (
            ap (λ l. seen passes make l y) (flat_map_more pieces objects i object below is)
                ∙ seen-append passes make (flat_map pieces (take i objects)) (pieces object) y ∙ or_last (seen passes make (flat_map pieces (take i objects)) y) _ all.0,
            lift ys all.1,
          )

          each : (run : List ℕ) → Each passes make (λ y. seen passes make found y ≡ true) (flat_map pieces run)
          each [] = tt
          each (p ∷ run) = Each-append passes make (λ y. seen passes make found y ≡ true) (pieces p) (flat_map pieces run) (lift (pieces p) (other_seen starts hidden object p so)) (each run)

      -- ## Where nothing more is shown

      -- choices that begin with the values
      abbrev Begins : List ℕ → Type 0
      Begins v = (r : List ℕ) × (v ≡ values ++ r) × (length values + length r ≡ length domains)

      abbrev AreLong : List (List ℕ) → List (List ℕ) → Type 0
      AreLong ds rests = Each passes make (λ r. length r ≡ length ds) rests

      long_longer : (ds : List (List ℕ)) (rests : List (List ℕ)) (o : ℕ) → AreLong ds rests → Each passes make (λ r. length r ≡ suc (length ds)) (map (λ r. o ∷ r) rests)
      long_longer ds [] o are = tt
      long_longer ds (r ∷ rests) o are = (ap (λ n. suc n) are.0, long_longer ds rests o are.1)

      long_pieces : (ds : List (List ℕ)) (rests : List (List ℕ)) → AreLong ds rests → (objects : List ℕ) → Each passes make (λ r. length r ≡ suc (length ds)) (flat_map (λ o. map (λ r. o ∷ r) rests) objects)
      long_pieces ds rests are [] = tt
      long_pieces ds rests are (o ∷ objects) =
          Each-append passes make (λ r. length r ≡ suc (length ds)) (map (λ r. o ∷ r) rests) (flat_map (λ q. map (λ r. q ∷ r) rests) objects) (long_longer ds rests o are) (long_pieces ds rests are objects)

      long_all : (ds : List (List ℕ)) → AreLong ds (assignments ds)
      long_all [] = (refl, tt)
      long_all (objects ∷ ds) = long_pieces ds (assignments ds) (long_all ds) objects

      begin_each : (o : ℕ) (ds : List (List ℕ)) → length values + suc (length ds) ≡ length domains → (rests : List (List ℕ)) → AreLong ds rests
          → Each passes make Begins (filter (relations_hold relations) (map (λ w. (values ++ o ∷ []) ++ w) rests))
      begin_each o ds long [] are = tt
      begin_each o ds long (r ∷ rests) are =
          let more = filter (relations_hold relations) (map (λ (w : List ℕ). (values ++ o ∷ []) ++ w) rests) in
          elim (relations_hold relations ((values ++ o ∷ []) ++ r)) as (λ b. Each passes make Begins (cond b (((values ++ o ∷ []) ++ r) ∷ more) more)) [
            | true ↦ ((o ∷ r, append_assoc values (o ∷ []) r, ap (λ n. length values + suc n) are.0 ∙ long), begin_each o ds long rests are.1)
            | false ↦ begin_each o ds long rests are.1
          ]

      begin_all : length values < length domains → (run : List ℕ) → Each passes make Begins (flat_map pieces run)
      begin_all below [] = tt
      begin_all below (o ∷ run) =
          let ds : List (List ℕ) = drop (length (values ++ o ∷ [])) domains in
          let long : length values + suc (length ds) ≡ length domains = omega (arith, below, length-append values (o ∷ []), length-drop (length (values ++ o ∷ [])) domains) in
          Each-append passes make Begins (pieces o) (flat_map pieces run) (begin_each o ds long (assignments ds) (long_all ds)) (begin_all below run)

      -- values of parameters that are not shown do not matter
      hidden_more : (reach : ℕ) → AreHiddenFrom shown reach → (before a b : List ℕ) → reach ≤ length before → length before + length a ≤ length shown → length a ≡ length b → net (before ++ a) ≡ net (before ++ b)
      hidden_more reach hidden before [] [] low small long = refl
      hidden_more reach hidden before [] (y ∷ b) low small long = absurd (omega arith)
      hidden_more reach hidden before (x ∷ a) [] low small long = absurd (omega arith)
      hidden_more reach hidden before (x ∷ a) (y ∷ b) low small long =
          let grown : length (before ++ y ∷ []) ≡ length before + 1 = omega (arith, length-append before (y ∷ [])) in
          ignores.hidden before a x y (hidden (length before) low (omega arith))
          ∙ ap net (sym (append_assoc before (y ∷ []) a))
          ∙ hidden_more reach hidden (before ++ y ∷ []) a b (omega arith) (omega arith) (omega arith)
          ∙ ap net (append_assoc before (y ∷ []) b)

      first_seen : (reach : ℕ) → AreHiddenFrom shown reach → reach ≤ length values → length shown ≡ length domains → (xs ys : List (List ℕ)) → 0 < length xs → Each passes make Begins xs → Each passes make Begins ys
          → Each passes make (λ y. seen passes make xs y ≡ true) ys
      first_seen reach hidden low size [] ys some xs-begin begin = absurd (omega arith)
      first_seen reach hidden low size (x ∷ xs) [] some xs-begin begin = tt
      first_seen reach hidden low size (x ∷ xs) (y ∷ ys) some xs-begin begin =
          let a = xs-begin.0 in
          let b = begin.0 in
          let same : net x ≡ net y =
          ap net a.1 ∙ hidden_more reach hidden values a.0 b.0 low (omega (arith, a.2, size)) (omega (arith, a.2, b.2)) ∙ sym (ap net b.1) in
          (one_seen (x ∷ xs) x y (zero, omega arith, refl) same, first_seen reach hidden low size (x ∷ xs) ys some xs-begin begin.1)

      -- a loop's step: the rest of the objects, where one completion is enough
      pub one_is_enough : (reach : ℕ) → AreHiddenFrom shown reach → reach ≤ length values → length shown ≡ length domains → length values < length domains
          → (objects : List ℕ) (n : ℕ) → n ≤ length objects → 0 < length (flat_map pieces (take n objects)) → (kept : List Instance) (start : List (List ℕ))
          → gathered passes make kept (start ++ flat_map pieces (take n objects)) ≡ gathered passes make kept (start ++ flat_map pieces objects)
      one_is_enough reach hidden low size below objects n small some kept start =
          rest_seen objects n kept start small
          (first_seen reach hidden low size (flat_map pieces (take n objects)) (flat_map pieces (drop n objects)) some (begin_all below (take n objects)) (begin_all below (drop n objects)))

-- more pieces where one more has some
pub some_more : (f : ℕ → List (List ℕ)) (objects : List ℕ) (i object a b c : ℕ) → i < length objects → object ≡ get_or objects i object → a ≤ b → b ≤ c
    → (a < b → 0 < length (flat_map f (take i objects))) → (b < c → 0 < length (f object)) → a < c → 0 < length (flat_map f (take (i + 1) objects))
some_more f objects i object a b c below is low high before here grew =
    let long : length (flat_map f (take (i + 1) objects)) ≡ length (flat_map f (take i objects)) + length (f object) =
    ap length (flat_map_more f objects i object below is) ∙ length-append (flat_map f (take i objects)) (f object) in
    elim (leb b a) as (λ t. leb b a ≡ t → 0 < length (flat_map f (take (i + 1) objects))) [
      | true ↦ λ e. late _ _ _ long (here (onward (at_most b a e)))
      | false ↦ λ e. early _ _ _ long (before (above b a e))
    ] refl
  where
    at_most : (m n : ℕ) → leb m n ≡ true → m ≤ n
    at_most m n e = grind (arith, nat_tests)

    above : (m n : ℕ) → leb m n ≡ false → n < m
    above m n e = grind (arith, nat_tests)

    onward : b ≤ a → b < c
    onward h = omega (arith, h, grew)

    late : (x y z : ℕ) → x ≡ y + z → 0 < z → 0 < x
    late x y z e h = omega (arith, e, h)

    early : (x y z : ℕ) → x ≡ y + z → 0 < y → 0 < x
    early x y z e h = omega (arith, e, h)

-- a part of the pieces has some where all have
pub some_longer : (f : ℕ → List (List ℕ)) (objects : List ℕ) (from to : ℕ) → from ≤ to → 0 < length (flat_map f (take from objects)) → 0 < length (flat_map f (take to objects))
some_longer f objects from to order some =
    let long : from + (to - from) ≡ to = omega arith in
    let split : length (flat_map f (take to objects)) ≡ length (flat_map f (take from objects)) + length (flat_map f (take (to - from) (drop from objects))) =
    ap (λ n. length (flat_map f (take n objects))) (sym long) ∙ ap (λ l. length (flat_map f l)) (take-add from (to - from) objects)
    ∙ ap length (flat_map-append f (take from objects) (take (to - from) (drop from objects))) ∙ length-append (flat_map f (take from objects)) (flat_map f (take (to - from) (drop from objects))) in
    omega (arith, split, some)

-- where some of the first objects give something, all do
pub some_all : (f : ℕ → List (List ℕ)) (objects : List ℕ) (n : ℕ) → 0 < length (flat_map f (take n objects)) → 0 < length (flat_map f objects)
some_all f objects n some = elim (leb n (length objects)) as (λ b. leb n (length objects) ≡ b → 0 < length (flat_map f objects)) [
  | true ↦ λ e. subst (λ (l : List ℕ). 0 < length (flat_map f l)) (take_all (length objects) objects (omega arith)) (some_longer f objects n (length objects) (at_most n (length objects) e) some)
  | false ↦ λ e. subst (λ (l : List ℕ). 0 < length (flat_map f l)) (take_all n objects (above n (length objects) e)) some
] refl
  where
    at_most : (m n : ℕ) → leb m n ≡ true → m ≤ n
    at_most m n e = grind (arith, nat_tests)

    above : (m n : ℕ) → leb m n ≡ false → n ≤ m
    above m n e = grind (arith, nat_tests)

-- an item that is there does not depend on what stands for one that is not
pub at_any : (xs : List ℕ) (i d e : ℕ) → i < length xs → get_or xs i d ≡ get_or xs i e
at_any [] i d e below = absurd (omega arith)
at_any (x ∷ xs) zero d e below = refl
at_any (x ∷ xs) (suc i) d e below = at_any xs i d e (omega arith)
