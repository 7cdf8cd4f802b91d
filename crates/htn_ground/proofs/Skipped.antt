-- A run of objects that are ruled out is counted and gives nothing.
use Rattle.std.proofs.Common.{◌≡◌, ℕ, true, List, [], ◌∷◌, ◌++◌, length, take, drop, get_or, ◌+◌, ◌-◌, ◌<◌, ◌≤◌, refl, sym, ap, ◌∙◌, arith, append-nil, length-append, length-drop}
use Rattle.std.specs.List.{All, flat_map}
use Rattle.std.specs.List.Sorted.{IsStrictlySortedBy}
use Rattle.std.specs.Ordering.{nat_cmp}
use Rattle.std.proofs.Math.Seq.{take-add}
use Rattle.std.proofs.lemmas.List.{get_or-drop, get_or-take, length-take}
use Rattle.std.proofs.lemmas.List.Elements.{All-tail}
use Rattle.std.proofs.lemmas.List.Concat.{flat_map-append}
use Rattle.std.proofs.lemmas.Map.Keys.{below_from_sorted, sorted_from_strictly_increasing}
use Rattle.htn_model.specs.State.{State}
use Rattle.htn_model.specs.Instances.{assignments}
use Rattle.htn_ground.specs.declared.fixed.FixedLiteral.{FixedLiteral}
use Rattle.htn_ground.specs.declared.relation.Relation.{Relation}
use Rattle.htn_ground.specs.Search.{completions, is_ruled_out_so_far, live_from}
use Rattle.htn_ground.proofs.Counting.{live_from-append, live_none}

-- the numbers from a place up to another ascend, as all do
pub ascending_run : (objects : List ℕ) (from to : ℕ) → IsStrictlySortedBy nat_cmp objects → IsStrictlySortedBy nat_cmp (take (to - from) (drop from objects))
ascending_run objects from to sorted = sorted_from_strictly_increasing (take (to - from) (drop from objects)) (λ k inside. by k (omega (arith, inside, length-take (to - from) (drop from objects))) (omega (arith, inside, length-take (to - from) (drop from objects), length-drop from objects)))
  where
    at : (k : ℕ) → k < to - from → get_or (take (to - from) (drop from objects)) k 0 ≡ get_or objects (from + k) 0
    at k long = get_or-take (to - from) (drop from objects) k 0 long ∙ get_or-drop from objects k 0

    by : (k : ℕ) → k + 1 < to - from → from + (k + 1) < length objects → get_or (take (to - from) (drop from objects)) k 0 < get_or (take (to - from) (drop from objects)) (k + 1) 0
    by k long below = omega (arith, at k (omega (arith, long)), at (k + 1) long, below_from_sorted objects (from + k) (from + (k + 1)) 0 sorted (omega arith) below)

module _ (state : State) (literals : List FixedLiteral) (domains : List (List ℕ)) (relations : List Relation) (values : List ℕ) where
  -- the completions with an object at the next parameter
  abbrev pieces : ℕ → List (List ℕ)
  pieces object = completions domains relations (values ++ object ∷ [])

  -- nothing of a run of dead objects is live
  run_none : (n : ℕ) (run : List ℕ) → All (λ o. is_ruled_out_so_far state literals (values ++ o ∷ []) ≡ true) run → live_from state literals n (flat_map pieces run) ≡ []
  run_none n [] dead = refl
  run_none n (o ∷ run) dead =
      live_from-append state literals n (pieces o) (flat_map pieces run)
      ∙ (λ i. live_none state literals n relations (values ++ o ∷ []) (dead 0 o (omega arith)) (assignments (drop (length (values ++ o ∷ [])) domains)) i ++ run_none (n + length (pieces o)) run (All-tail (λ x. is_ruled_out_so_far state literals (values ++ x ∷ []) ≡ true) o run dead) i)

  -- the objects from a place up to another are dead
  dead_run : (objects : List ℕ) (from to : ℕ) → to ≤ length objects → ((k d : ℕ) → from ≤ k → k < to → is_ruled_out_so_far state literals (values ++ get_or objects k d ∷ []) ≡ true)
      → All (λ o. is_ruled_out_so_far state literals (values ++ o ∷ []) ≡ true) (take (to - from) (drop from objects))
  dead_run objects from to small dead k d inside =
      let long : k < to - from = omega (arith, inside, length-take (to - from) (drop from objects)) in
      let is : get_or (take (to - from) (drop from objects)) k d ≡ get_or objects (from + k) d = get_or-take (to - from) (drop from objects) k d long ∙ get_or-drop from objects k d in
      ap (λ o. is_ruled_out_so_far state literals (values ++ o ∷ [])) is ∙ dead (from + k) d (omega arith) (omega arith)

  -- a loop's step: a run that is skipped
  pub live_skip : (objects : List ℕ) (from to first now next count : ℕ) (start done : List (ℕ × List ℕ)) → from ≤ to → to ≤ length objects
      → ((k d : ℕ) → from ≤ k → k < to → is_ruled_out_so_far state literals (values ++ get_or objects k d ∷ []) ≡ true)
      → done ≡ start ++ live_from state literals first (flat_map pieces (take from objects)) → now ≡ first + length (flat_map pieces (take from objects))
      → count ≡ length (flat_map pieces (take (to - from) (drop from objects))) → next ≡ now + count
      → (done ≡ start ++ live_from state literals first (flat_map pieces (take to objects))) × (next ≡ first + length (flat_map pieces (take to objects)))
  live_skip objects from to first now next count start done order small dead so_far number counted sum =
      let run = take (to - from) (drop from objects) in
      let whole : from + (to - from) ≡ to = omega arith in
      let split : flat_map pieces (take to objects) ≡ flat_map pieces (take from objects) ++ flat_map pieces run =
      ap (λ n. flat_map pieces (take n objects)) (sym whole) ∙ ap (flat_map pieces) (take-add from (to - from) objects) ∙ flat_map-append pieces (take from objects) run in
      let none = run_none (first + length (flat_map pieces (take from objects))) run (dead_run objects from to small dead) in
      let long : length (flat_map pieces (take to objects)) ≡ length (flat_map pieces (take from objects)) + length (flat_map pieces run) = ap length split ∙ length-append (flat_map pieces (take from objects)) (flat_map pieces run) in (
        so_far
            ∙ ap (λ l. start ++ l) (sym (append-nil (live_from state literals first (flat_map pieces (take from objects))))
            ∙ (λ i. live_from state literals first (flat_map pieces (take from objects)) ++ sym none i)
            ∙ sym (live_from-append state literals first (flat_map pieces (take from objects)) (flat_map pieces run)))
            ∙ ap (λ l. start ++ live_from state literals first l) (sym split),
        omega (arith, long, number, counted, sum),
      )
