use Rattle.std.proofs.Common.{map, true}
use Rattle.htn_model.specs.PlanFile.{IsIn}
use Rattle.htn_model.specs.Schema.{AtomSchema, literal}
use Rattle.plan_lines.proofs.ever.positive_atoms.Given as goal

abbrev pub invariant-loop-formula : goal.invariant-loop-formula
invariant-loop-formula l = (a : AtomSchema) → IsIn a (map (λ s. s.now) l.atoms.items) → IsIn (literal true a) l.precondition
