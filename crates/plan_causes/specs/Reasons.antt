-- Why a plan file has its verdict.
use Rattle.htn_model.specs.PlanFile.{IsWithoutRepeats}
use Rattle.plan_causes.specs.declared.reason.Cause.{Cause}
use Rattle.plan_causes.specs.declared.reason.Cause.TheVariants as cause

-- no number stands twice among those with which the same is wrong
abbrev pub AreOnce : Cause → Type 0
AreOnce (cause.Structure wrong unreached) =
    IsWithoutRepeats wrong.defined_twice.items × IsWithoutRepeats wrong.listed_twice.items × IsWithoutRepeats wrong.undefined.items × IsWithoutRepeats wrong.unlisted.items
AreOnce _ = Unit {0}
