-- The answers of a search for a task's problem.
use Rattle.std.specs.Prelude.{◌≡◌, ◌↔◌, ◌≤◌, ℕ, IfSome, Some, None}
use Rattle.htn_model.specs.Grounding.{problem_of}
use Rattle.htn_model.specs.Task.{Task}
use Rattle.htn_model.specs.Tree as tree
use Rattle.htn_model.specs.Answer.{IsAnswer}
use Rattle.htn_model.specs.Exhaustion.{IsMet, IsUnsolvable}
use Rattle.htn_ground.specs.declared.node.Solution.{Solution}
use Rattle.htn_ground.specs.Trees.{solution_of}
use Rattle.htn_search.specs.declared.answer.Answer.{Answer}
use Rattle.htn_search.specs.declared.answer.Known.{Known}
use Rattle.htn_search.specs.declared.answer.Known.TheVariants as known
use Rattle.htn_search.specs.declared.answer.Answer.TheVariants.{Plan, None as NoPlan, Unsolvable}

-- the answer for a task is a plan, by this solution
abbrev pub IsPlan : Task → Answer → tree.Solution → Type 0
IsPlan t answer s = (plan : Solution) × (answer ≡ Plan plan) × (solution_of t plan ≡ s)

-- a plan exactly by the solution that answers for the bound, which has fewest nodes and then the least code; none
-- exactly where no solution is within the bound, which was met; unsolvable exactly where there is no solution, and the
-- bound was not met
pub record Answers (t : Task) (bound : ℕ) (answer : Answer) : Type 0 where
  pub plan : (s : tree.Solution) → IsPlan t answer s ↔ IsAnswer (problem_of t) bound (Some s)
  pub none : (answer ≡ NoPlan) ↔ (IsAnswer (problem_of t) bound None × IsMet (problem_of t) bound)
  pub unsolvable : (answer ≡ Unsolvable) ↔ (IsUnsolvable (problem_of t) × (IsMet (problem_of t) bound → ⊥))

-- no solution has fewer nodes
abbrev pub HasNoneBelow : Task → ℕ → Type 0
HasNoneBelow t nodes = (s : tree.Solution) → tree.IsSolution (problem_of t) s → nodes ≤ tree.total_size s.trees

-- the answer for the bound; or that no solution has at most a number of nodes, if one is named
abbrev pub IsKnown : Task → ℕ → Known → Type 0
IsKnown t bound (known.Answer answer) = Answers t bound answer
IsKnown t bound (known.Unknown none_within) = IfSome none_within (λ nodes. IsAnswer (problem_of t) nodes None)
