-- The choices of the program in terms of the model.
use Rattle.std.specs.Prelude.{◌≡◌, ℕ, List, Some, map}
use Rattle.std.specs.Arc.{arc_value}
use Rattle.htn_model.specs.Instance.{Instance}
use Rattle.htn_model.specs.Machine as model
use Rattle.htn_model.specs.Machine.{Config, no_network, choose}
use Rattle.htn_model.specs.Problem.{Problem}
use Rattle.htn_net.specs.declared.choice.Choice.{Choice}
use Rattle.htn_net.specs.declared.choice.Performance.{Performance}
use Rattle.htn_walk.specs.Choices.{chosen_of}
use Rattle.htn_walk.specs.declared.change.Change.TheVariants.{Decomposed}

-- the model's choice that corresponds to a choice of the code
abbrev pub choice_of : Config → Choice → model.Choice
choice_of c x = chosen_of c (x.position, x.change)

-- the choice is that of its number
abbrev pub IsChoice : Problem → Config → Choice → Type 0
IsChoice problem c x = choose problem c x.number ≡ Some (choice_of c x)

-- the step or action is free and has that number, and its literals hold
abbrev pub IsPerformance : Problem → Config → Performance → Type 0
IsPerformance problem c p = choose problem c p.number ≡ Some (record { position = p.position; network = no_network; state = arc_value p.state })

-- a choice for each numbered instance of the task at a position
abbrev pub decomposed_choices : ℕ → List (ℕ × Instance) → List Choice
decomposed_choices position found = map (λ p. record { number = p.0; position = position; change = Decomposed p.1 }) found
