-- Lines by their numbers: a line's number is the place of its id among the defined ones.
use Rattle.std.specs.Prelude.{◌≡◌, ℕ, List, [], ◌∷◌, ◌++◌, map, Some, slice_get, Bool}
use Rattle.std.specs.Bool.{MatchBool}
use Rattle.htn_model.specs.PlanFile.{DecompositionLine, IsIn, IsWithoutRepeats}

-- the ids come after the ones before, and there are still no repeats; or else there would be
abbrev pub AreNew : (before after ids : List ℕ) → Bool → Type 0
AreNew before after ids b = MatchBool b ((after ≡ before ++ ids) × IsWithoutRepeats after) (IsWithoutRepeats (before ++ ids) → ⊥)

-- the lines with these numbers have the listed ids, in turn
abbrev pub AreNumbersOf : (ids numbers listed : List ℕ) → Type 0
AreNumbersOf ids numbers listed = map (slice_get ids) numbers ≡ map Some listed

-- one of the listed ids is no line's
abbrev pub IsUnknown : (ids listed : List ℕ) → Type 0
IsUnknown ids listed = (id : ℕ) × IsIn id listed × (IsIn id ids → ⊥)

-- for each line the numbers of its children
abbrev pub AreNumbersOfChildren : (ids : List ℕ) → List (List ℕ) → List DecompositionLine → Type 0
AreNumbersOfChildren ids [] lines = lines ≡ []
AreNumbersOfChildren ids (numbers ∷ lists) [] = ⊥
AreNumbersOfChildren ids (numbers ∷ lists) (line ∷ lines) = AreNumbersOf ids numbers line.children × AreNumbersOfChildren ids lists lines
