-- Command lines, read by the definitions.
use Rattle.std.proofs.Common.{refl}
use Rattle.clap.proofs.OnLiterals.{clap_on_literals}
use Rattle.htn_command.specs.CommandLine.{faults, htnplan, read_by}
use Rattle.htn_command.specs.Examples.{ExamplesHold}

-- the worked command lines give and ask for what they should
pub examples_hold : ExamplesHold
unfolding clap_on_literals faults htnplan read_by
examples_hold = record {
  domain = refl;
  problem = refl;
  default_nodes = refl;
  nodes = refl;
  workers = refl;
  unwatched = (refl, refl);
  watch = (refl, refl);
  checked = (refl, refl);
  plan = refl;
  sound = (refl, refl, refl, refl);
  no_worker = refl;
  no_time_left = refl;
  too_long = refl;
  no_problem = refl;
  help = refl;
  no_plan = refl;
  two_plans = refl;
  version = refl;
  by_default = record { domain = refl; problem = refl; format = refl; limit = refl; is_strict = refl; colour = refl; sound = refl };
  by_options = record { domain = refl; problem = refl; format = refl; limit = refl; is_strict = refl; colour = refl; sound = refl };
  no_format = refl;
  no_colour = refl;
  no_limit = refl;
  two_inputs = refl;
  no_domain = refl;
  foreign_option = refl;
  explained_by_default = record { domain = refl; problem = refl; plan = refl; format = refl; states = refl; colour = refl; sound = refl };
  explained_by_options = record { domain = refl; problem = refl; plan = refl; format = refl; states = refl; colour = refl; sound = refl };
  explained_as = refl;
  explained_once = refl;
  unexplained = refl;
  drawn_by_default = record { domain = refl; problem = refl; plan = refl; format = refl; details = refl; colour = refl; sound = refl };
  drawn_by_options = record { domain = refl; problem = refl; plan = refl; format = refl; details = refl; colour = refl; sound = refl };
  no_drawing = refl;
  no_time = refl;
  input_twice = refl;
  undrawn = refl;
  names_only = refl;
}
