use Rattle.std.proofs.Common.{List, map, ℕ}
use Rattle.htn_model.specs.Instances.{ground_atom}
use Rattle.htn_model.specs.PlanFile.{IsIn}
use Rattle.plan_lines.specs.Turns.{IsEverTrue}
use Rattle.plan_lines.specs.Given.{Extends}
use Rattle.plan_lines.proofs.joining.candidates.Given as goal

abbrev pub invariant-loop-place : goal.invariant-loop-place
invariant-loop-place l =
    (values : List ℕ) → Extends values l.given → IsEverTrue l.ever (ground_atom values l.schema) → IsIn (ground_atom values l.schema) (map (λ a. a.now) l.fewest)
