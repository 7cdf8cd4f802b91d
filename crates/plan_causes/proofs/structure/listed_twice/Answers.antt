use Rattle.std.proofs.Common.{subst, ◌∙◌}
use Rattle.htn_model.specs.PlanFile.{IsIn}
use Rattle.plan_causes.specs.Structure.{AreExactly}
use Rattle.plan_causes.proofs.structure.listed_twice.Goals as goal

pub returns-clause-met : goal.returns-clause-met
returns-clause-met c = subst (λ ids. AreExactly (λ id. IsIn id ids) c.repeated.new.met.keys) (c.as_slice.ensures.value ∙ c.in_ok-ids.ensures) c.in_ok-found.ensures.met
