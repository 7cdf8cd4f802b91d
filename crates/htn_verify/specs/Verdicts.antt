-- The verdicts of the code as those of the definitions.
use Rattle.htn_model.specs.Verdict as model
use Rattle.htn_verify.specs.declared.verdict.Verdict.{Verdict}
use Rattle.htn_verify.specs.declared.verdict.Verdict.TheVariants.{Structure, NoInstance, NotExecutable, GoalFails, NoArrangement, Valid}

-- the verdict as the definitions have it
abbrev pub verdict_of : Verdict → model.Verdict
verdict_of Structure = model.structure
verdict_of (NoInstance name) = model.no_instance name
verdict_of (NotExecutable id) = model.not_executable id
verdict_of GoalFails = model.goal_fails
verdict_of NoArrangement = model.no_arrangement
verdict_of Valid = model.valid
