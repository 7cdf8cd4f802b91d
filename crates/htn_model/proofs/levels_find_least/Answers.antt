use Rattle.htn_model.proofs.LiveSearch.{all_numbers, live_numbers}
use Rattle.htn_model.proofs.levels_find_least.Goals as goal

pub returns : goal.returns
returns c = record { all_numbers = all_numbers; live_numbers = λ problem same bound grounded sound. live_numbers problem grounded same bound sound }
