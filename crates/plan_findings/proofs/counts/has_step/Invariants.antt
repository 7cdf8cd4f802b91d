use Rattle.std.proofs.Common.{◌≡◌, drop}
use Rattle.htn_model.specs.Instances as model
use Rattle.htn_task.specs.Formulas.{formulas_view}
use Rattle.plan_findings.proofs.counts.has_step.Given as goal

-- the formulas that are left decide
abbrev pub invariant-loop-formula : goal.invariant-loop-formula
invariant-loop-formula l = model.has_step (formulas_view (drop l.formula-index l.formula-items)) ≡ model.has_step (formulas_view l.formula-items)
