use Rattle.plan_text.proofs.FileLaws.{one_file}
use Rattle.plan_text.proofs.laws.one_file.Goals as goal

pub returns : goal.returns
returns c = one_file
