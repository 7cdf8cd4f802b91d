-- Lists of which the places are numbers of 32 bits.
use Rattle.std.specs.Prelude.{◌≡◌, ◌≤◌, ◌^◌, List, ◌++◌, length}
use Rattle.htn_model.specs.PlanFile.{IsWithoutRepeats}

module _ {A : Type 0} where
  -- nothing has two numbers, and there is a number for each
  pub record IsNumbering (xs : List A) : Type 0 where
    pub distinct : IsWithoutRepeats xs
    pub few : length xs ≤ 2 ^ 32

  -- a list that grew at its end
  abbrev pub IsExtension : List A → List A → Type 0
  IsExtension xs ys = (more : List A) × (ys ≡ xs ++ more)
