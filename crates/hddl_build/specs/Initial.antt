-- The initial network of a problem.
use Rattle.std.specs.Prelude.{◌≡◌, map}
use Rattle.htn_model.specs.Task.{InitialSchema}
use Rattle.hddl_words.specs.declared.problem.HtnText.{HtnText}
use Rattle.hddl_meaning.specs.Building.{Vocabulary, IsNetworkOf, equality_of, types_of, variables_of}

-- the initial network as the task has it: parameters by type, constraints and subtasks by number
pub record IsInitialOf (v : Vocabulary) (x : HtnText) (n : InitialSchema) : Type 0 where
  pub parameters : n.parameters ≡ types_of v x.parameters
  pub constraints : n.constraints ≡ map (equality_of v (variables_of x.parameters)) x.network.constraints
  pub network : IsNetworkOf v (variables_of x.parameters) x.network n.network
