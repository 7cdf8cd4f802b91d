-- The choices of which each value passes the test of its parameter are the choices from the narrowed lists.
use Rattle.std.proofs.Common.{◌≡◌, ℕ, Bool, true, false, cond, ◌&&◌, List, [], ◌∷◌, ◌++◌, map, ◌+◌, refl, ap, ◌∙◌}
use Rattle.std.specs.List.{filter, flat_map}
use Rattle.std.proofs.lemmas.List.Elements.{filter-append}
use Rattle.htn_model.specs.Instances.{assignments}
use Rattle.htn_ground.specs.Search.{each_passes, narrowed}

module _ (test : ℕ → ℕ → Bool) where
  -- no choice passes with an object that fails
  dropped : (j object : ℕ) → test j object ≡ false → (rests : List (List ℕ)) → filter (each_passes test j) (map (λ rest. object ∷ rest) rests) ≡ []
  dropped j object fails [] = refl
  dropped j object fails (rest ∷ rests) =
      ap (λ b. cond (b && each_passes test (j + 1) rest) ((object ∷ rest) ∷ filter (each_passes test j) (map (λ w. object ∷ w) rests)) (filter (each_passes test j) (map (λ w. object ∷ w) rests))) fails
      ∙ dropped j object fails rests

  -- with one that passes, the rest decides
  kept : (j object : ℕ) → test j object ≡ true → (rests : List (List ℕ)) → filter (each_passes test j) (map (λ rest. object ∷ rest) rests) ≡ map (λ rest. object ∷ rest) (filter (each_passes test (j + 1)) rests)
  kept j object passes [] = refl
  kept j object passes (rest ∷ rests) =
      let later = filter (each_passes test j) (map (λ (w : List ℕ). object ∷ w) rests) in
      ap (λ b. cond (b && each_passes test (j + 1) rest) ((object ∷ rest) ∷ later) later) passes
      ∙ elim (each_passes test (j + 1) rest) as (λ b. cond b ((object ∷ rest) ∷ later) later ≡ map (λ w. object ∷ w) (cond b (rest ∷ filter (each_passes test (j + 1)) rests) (filter (each_passes test (j + 1)) rests))) [
        | true ↦ ap (λ l. (object ∷ rest) ∷ l) (kept j object passes rests)
        | false ↦ kept j object passes rests
      ]

  -- the same for each of some objects
  by_objects : (j : ℕ) (rests : List (List ℕ)) (objects : List ℕ)
      → filter (each_passes test j) (flat_map (λ object. map (λ rest. object ∷ rest) rests) objects)
      ≡ flat_map (λ object. map (λ rest. object ∷ rest) (filter (each_passes test (j + 1)) rests)) (filter (test j) objects)
  by_objects j rests [] = refl
  by_objects j rests (object ∷ objects) =
      let piece : ℕ → List (List ℕ) = λ o. map (λ (rest : List ℕ). o ∷ rest) (filter (each_passes test (j + 1)) rests) in
      filter-append (each_passes test j) (map (λ rest. object ∷ rest) rests) (flat_map (λ o. map (λ rest. o ∷ rest) rests) objects)
      ∙ ap (λ l. filter (each_passes test j) (map (λ rest. object ∷ rest) rests) ++ l) (by_objects j rests objects)
      ∙ elim (test j object) as (λ b. test j object ≡ b → (filter (each_passes test j) (map (λ rest. object ∷ rest) rests) ++ flat_map piece (filter (test j) objects)) ≡ flat_map piece (cond b (object ∷ filter (test j) objects) (filter (test j) objects))) [
        | true ↦ λ e. ap (λ l. l ++ flat_map piece (filter (test j) objects)) (kept j object e rests)
        | false ↦ λ e. ap (λ l. l ++ flat_map piece (filter (test j) objects)) (dropped j object e rests)
      ] refl

  -- the assignments that pass are those from narrowed lists
  pub filter-assignments : (j : ℕ) (domains : List (List ℕ)) → filter (each_passes test j) (assignments domains) ≡ assignments (narrowed test j domains)
  filter-assignments j [] = refl
  filter-assignments j (objects ∷ domains) =
      by_objects j (assignments domains) objects
      ∙ ap (λ (rests : List (List ℕ)). flat_map (λ object. map (λ rest. object ∷ rest) rests) (filter (test j) objects)) (filter-assignments (j + 1) domains)
