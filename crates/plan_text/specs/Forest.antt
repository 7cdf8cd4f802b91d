-- A file's lines as a forest of line numbers.
use Rattle.std.specs.Prelude.{ℕ, List, map, Vec}
use Rattle.htn_model.specs.PlanFile.{PlanFile, defined_ids, IsForest}
use Rattle.plan_text.specs.Numbers.{AreNumbersOf, AreNumbersOfChildren}

-- vectors as lists
abbrev pub lists_of : {A : Type 0} → List (Vec ℕ A) → List (List ℕ)
lists_of vectors = map (λ v. v.items) vectors

-- the line numbers of the roots, and those of each decomposition line's children
pub record Forest : Type 0 where
  pub roots : List ℕ
  pub children : List (List ℕ)

-- the file's lines are a forest, and this is it
pub record IsForestOf (file : PlanFile) (forest : Forest) : Type 0 where
  pub is_forest : IsForest file
  pub roots : AreNumbersOf (defined_ids file) forest.roots file.roots
  pub children : AreNumbersOfChildren (defined_ids file) forest.children file.decompositions
