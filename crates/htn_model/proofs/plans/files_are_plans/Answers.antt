use Rattle.htn_model.proofs.Between.{states_from, lines_run, lines_named}
use Rattle.htn_model.proofs.Planted.{forest_planted}
use Rattle.htn_model.proofs.plans.files_are_plans.Goals as goal

pub returns : goal.returns
returns c = record {
  plans = λ naming problem. record {
    plans = λ file forest have. forest_planted file forest naming (lines_named naming problem file have);
    states = λ file ends. (states_from naming problem problem.initial_state file.actions, lines_run naming problem file ends);
  };
}
