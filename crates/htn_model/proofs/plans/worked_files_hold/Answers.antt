use Rattle.htn_model.proofs.WorkedFiles.{files_have_verdicts}
use Rattle.htn_model.proofs.plans.worked_files_hold.Goals as goal

pub returns : goal.returns
returns c = record { hold = files_have_verdicts }
