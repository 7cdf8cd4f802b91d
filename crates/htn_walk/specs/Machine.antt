-- The word machine of a ground problem: progression over configurations.
use Rattle.std.specs.Prelude.{◌≡◌, ℕ, Bool, false, map, length, Option, Some, None}
use Rattle.htn_model.specs.Atom.{Atom}
use Rattle.htn_model.specs.State.{contains}
use Rattle.htn_model.specs.Problem.{Problem}
use Rattle.htn_model.specs.Machine.{Config, Choice, choose, start, step_by}
use Rattle.htn_model.specs.Levels.{is_done}
use Rattle.htn_model.specs.Exhaustion.{is_dead}
use Rattle.word_machine.specs.Machine.{WordMachine}

-- whether a step chose a dead instance; one without a choice didn't
abbrev pub is_dead_choice : Problem → Option Choice → Bool
is_dead_choice problem None = false
is_dead_choice problem (Some choice) = is_dead problem choice.network

-- the number names an instance whose step has a literal that is false in the initial state and that no effect names
abbrev pub is_dead_number : Problem → Config → ℕ → Bool
is_dead_number problem c number = is_dead_choice problem (choose problem c number)

-- configurations as states of a word machine: they start at the initial networks and step by instances of methods
abbrev pub machine_of : Problem → WordMachine Config
machine_of problem = record {
  initials = map (start problem) problem.initials;
  step = step_by problem;
  is_done = is_done problem;
  open_len = λ c. length c.open_nodes;
  is_dead = is_dead_number problem;
}

-- the state is the initial one but for what effects name
abbrev pub IsOwn : Problem → Config → Type 0
IsOwn problem c = (a : Atom) → problem.is_changed a.predicate ≡ false → contains c.state a ≡ contains problem.initial_state a
