-- The plan files that can be written.
use Rattle.std.specs.Prelude.{ℕ, ◌<◌, ◌^◌}
use Rattle.std.specs.List.{AllByRecursion}
use Rattle.htn_model.specs.PlanFile.{ActionLine, DecompositionLine, PlanFile}
use Rattle.htn_model.specs.PlanWord.{IsName}

-- a number that fits 64 bits
abbrev pub IsId : ℕ → Type 0
IsId n = n < 2 ^ 64

-- an action line that can be written: its number fits, and its words are names
pub record IsActionLine (line : ActionLine) : Type 0 where
  pub id : IsId line.id
  pub name : IsName line.name
  pub arguments : AllByRecursion IsName line.arguments

-- a decomposition line that can be written: its numbers fit, and its words are names
pub record IsDecompositionLine (line : DecompositionLine) : Type 0 where
  pub id : IsId line.id
  pub task : IsName line.task
  pub arguments : AllByRecursion IsName line.arguments
  pub method : IsName line.method
  pub children : AllByRecursion IsId line.children

-- what each plan file keeps
pub record IsPlanFile (file : PlanFile) : Type 0 where
  pub actions : AllByRecursion IsActionLine file.actions
  pub roots : AllByRecursion IsId file.roots
  pub decompositions : AllByRecursion IsDecompositionLine file.decompositions
