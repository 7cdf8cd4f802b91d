-- Choices of objects, one parameter at a time.
use Rattle.std.specs.Prelude.{List, map, ℕ, ◌++◌, ◌∷◌, []}
use Rattle.std.specs.List.{flat_map}

-- each choice lengthened by each of the objects
abbrev pub lengthened : List (List ℕ) → List ℕ → List (List ℕ)
lengthened choices objects = flat_map (λ choice. map (λ o. choice ++ o ∷ []) objects) choices
