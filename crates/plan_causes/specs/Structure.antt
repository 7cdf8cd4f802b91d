-- Why the lines of a plan file are no forest: numbers of lines with which something is wrong.
use Rattle.std.specs.Prelude.{◌≡◌, ◌⊎◌, ◌↔◌, ℕ, List, [], ◌∷◌}
use Rattle.htn_model.specs.PlanFile.{IsForest, IsIn, IsReached, IsWithoutRepeats, PlanFile, defined_ids, listed_ids}
use Rattle.plan_causes.specs.declared.structure.WrongIds.{WrongIds}

-- a number stands more than once in a list
abbrev pub IsRepeated : List ℕ → ℕ → Type 0
IsRepeated [] id = ⊥
IsRepeated (x ∷ ids) id = ((id ≡ x) × IsIn id ids) ⊎ IsRepeated ids id

-- a number is in one list and not in the other
abbrev pub IsMissing : (those these : List ℕ) → ℕ → Type 0
IsMissing those these id = IsIn id these × (IsIn id those → ⊥)

-- exactly these numbers, each once
pub record AreExactly (IsOne : ℕ → Type 0) (ids : List ℕ) : Type 0 where
  pub once : IsWithoutRepeats ids
  pub exactly : (id : ℕ) → IsIn id ids ↔ IsOne id

-- the numbers that are defined or listed more than once, or one and not the other
pub record AreWrong (file : PlanFile) (wrong : WrongIds) : Type 0 where
  pub defined_twice : AreExactly (IsRepeated (defined_ids file)) wrong.defined_twice.items
  pub listed_twice : AreExactly (IsRepeated (listed_ids file)) wrong.listed_twice.items
  pub undefined : AreExactly (IsMissing (defined_ids file) (listed_ids file)) wrong.undefined.items
  pub unlisted : AreExactly (IsMissing (listed_ids file) (defined_ids file)) wrong.unlisted.items

-- nothing is wrong with any number
pub record AreNone (wrong : WrongIds) : Type 0 where
  pub defined_twice : wrong.defined_twice.items ≡ []
  pub listed_twice : wrong.listed_twice.items ≡ []
  pub undefined : wrong.undefined.items ≡ []
  pub unlisted : wrong.unlisted.items ≡ []
