-- What a search lists: of the instances that are not dead, and of the initial networks, each network once. A rank is a
-- place among those that are listed.
use Rattle.std.specs.Prelude.{ℕ, false, List, [], map, length, Option, Some, None, unwrap_or, slice_get, option_map, option_and_then}
use Rattle.std.specs.List.{enumerate_from}
use Rattle.indexmap.specs.IndexSet.{insert_all}
use Rattle.htn_model.specs.Choice.{first_free_compound, child_of}
use Rattle.htn_model.specs.Grounding.{problem_of}
use Rattle.htn_model.specs.Instance.{Instance}
use Rattle.htn_model.specs.Instances.{initials}
use Rattle.htn_model.specs.Levels.{is_done}
use Rattle.htn_model.specs.Machine.{Config, Choice, choose, result_of, start}
use Rattle.htn_model.specs.Problem.{Child, precondition, action, task, GroundTask, is_before}
use Rattle.htn_model.specs.Task.{Task}
use Rattle.htn_ground.specs.Distinct.{same_network}
use Rattle.word_machine.specs.Machine.{WordMachine}
use Rattle.htn_walk.specs.Live.{live_methods}

-- numbered instances without each whose network an earlier one has
abbrev pub first_of_each : List (ℕ × Instance) → List (ℕ × Instance)
first_of_each found = insert_all (λ p q. same_network p.1 q.1) [] found

-- the instances of a ground task that a search lists, with their numbers
abbrev pub listed_methods : Task → GroundTask → List (ℕ × Instance)
listed_methods t g = first_of_each (live_methods t g)

-- the initial networks that a search lists, with their numbers
abbrev pub listed_initials : Task → List (ℕ × Instance)
listed_initials t = first_of_each (enumerate_from 0 (initials t))

-- the instances that are listed for a node
abbrev pub listed_for : Task → Child → List (ℕ × Instance)
listed_for t (precondition literals) = []
listed_for t (action g) = []
listed_for t (task g) = listed_methods t g

-- the number of a rank: of the first free compound task's instance, or where none is free of a free node, which are all
-- listed
abbrev pub number_by : Task → Config → ℕ → Option ℕ → Option ℕ
number_by t c rank None = Some rank
number_by t c rank (Some i) = option_map (λ p. p.0) (slice_get (listed_for t (child_of c.open_nodes i)) rank)

-- the number of a rank at a configuration, if there is one
abbrev pub number_at : Task → Config → ℕ → Option ℕ
number_at t c rank = number_by t c rank (first_free_compound c.open_nodes (is_before c.order))

-- what a rank chooses
abbrev pub choose_listed : Task → Config → ℕ → Option Choice
choose_listed t c rank = option_and_then (choose (problem_of t) c) (number_at t c rank)

-- the word machine of a task by ranks
abbrev pub listing_machine : Task → WordMachine Config
listing_machine t = record {
  initials = map (λ p. start (problem_of t) p.1.network) (listed_initials t);
  step = λ c rank. option_map (result_of c) (choose_listed t c rank);
  is_done = is_done (problem_of t);
  open_len = λ c. length c.open_nodes;
  is_dead = λ c rank. false;
}

-- the number of a rank, where it is listed
abbrev pub number_of : Task → Config → ℕ → ℕ
number_of t c rank = unwrap_or (number_at t c rank) 0

-- the number of the initial network with this rank
abbrev pub initial_of : Task → ℕ → ℕ
initial_of t rank = unwrap_or (option_map (λ p. p.0) (slice_get (listed_initials t) rank)) 0
