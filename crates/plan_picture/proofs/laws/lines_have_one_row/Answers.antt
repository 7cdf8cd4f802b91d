use Rattle.plan_picture.proofs.Onces.{have_all_once}
use Rattle.plan_picture.proofs.laws.lines_have_one_row.Goals as goal

pub returns : goal.returns
returns c = have_all_once
