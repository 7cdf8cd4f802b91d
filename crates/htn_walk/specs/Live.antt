-- The numbers of a configuration.
use Rattle.std.specs.Prelude.{ℕ, Bool, false, not, List, Option, Some, None, is_some}
use Rattle.std.specs.List.{enumerate_from}
use Rattle.htn_model.specs.Problem.{GroundTask, Problem}
use Rattle.htn_model.specs.Choice.{passing}
use Rattle.htn_model.specs.Exhaustion.{is_dead}
use Rattle.htn_model.specs.Instance.{Instance}
use Rattle.htn_model.specs.Instances.{methods_of}
use Rattle.htn_model.specs.Levels.{choice_count}
use Rattle.htn_model.specs.Machine.{Config, Choice, choose}
use Rattle.htn_model.specs.Task.{Task}
use Rattle.htn_ground.specs.Methods.{live_instances}

-- the instances of a ground task that are not dead, with their numbers among all of them
abbrev pub live_methods : Task → GroundTask → List (ℕ × Instance)
live_methods t g = live_instances t (enumerate_from 0 (methods_of t g))

-- the choice is there and its network is not dead
abbrev pub is_live_choice : Problem → Option Choice → Bool
is_live_choice problem None = false
is_live_choice problem (Some choice) = not (is_dead problem choice.network)

-- the numbers that a configuration allows, ascending
abbrev pub numbers : Problem → Config → List ℕ
numbers problem c = passing (λ n. is_some (choose problem c n)) (choice_count problem c)

-- those of them that are not dead
abbrev pub live_numbers : Problem → Config → List ℕ
live_numbers problem c = passing (λ n. is_live_choice problem (choose problem c n)) (choice_count problem c)
