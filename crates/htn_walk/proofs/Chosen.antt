-- What is known of a number that chooses.
use Rattle.std.proofs.Common.{◌≡◌, ℕ, ◌<◌, length, Some, sym, ap, ◌∙◌, inl, inr, ◌⊎◌}
use Rattle.htn_model.specs.Machine.{Config, Choice, choose}
use Rattle.htn_model.specs.Problem.{Network, Problem, IsGrounded}
use Rattle.htn_model.proofs.Regrown.{choice_within}
use Rattle.htn_model.proofs.Steps.{Decomposes, Executes, chosen}

module _ (problem : Problem) (c : Config) (n : ℕ) (choice : Choice) (chooses : choose problem c n ≡ Some choice) where
  -- it chooses an open node
  pub chosen_within : choice.position < length c.open_nodes
  chosen_within = choice_within problem c n choice (chosen problem c n choice chooses)

  -- and what takes its place has an order on its nodes
  pub chosen_whole : IsGrounded problem → length choice.network.order ≡ length choice.network.children
  chosen_whole grounded = by (chosen problem c n choice chooses)
    where
      by : Decomposes problem c n choice ⊎ Executes problem c n choice → length choice.network.order ≡ length choice.network.children
      by (inl d) = (grounded.methods d.name n choice.network d.method).square.0
      by (inr e) = ap (λ (m : Network). length m.order) e.network ∙ sym (ap (λ (m : Network). length m.children) e.network)
