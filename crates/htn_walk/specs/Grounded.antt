-- That a problem is grounded has one proof at most.
use Rattle.std.specs.Prelude.{◌≡◌, ℕ, Bool, List, length}
use Rattle.std.specs.List.{AllByRecursion, AllByRecursion-prop}
use Rattle.std.proofs.Math.Bool.{Bool-set}
use Rattle.std.proofs.Math.Nat.{ℕ_set}
use Rattle.htn_model.specs.Problem.{Problem, Network, IsNetwork, IsGrounded}

rows-prop : (n : ℕ) (rows : List (List Bool)) → IsProp (AllByRecursion (λ (row : List Bool). length row ≡ n) rows)
rows-prop n rows = AllByRecursion-prop (λ (row : List Bool). length row ≡ n) (λ row. hlevel (ℕ_set)) rows

network-prop : (network : Network) → IsProp (IsNetwork network)
network-prop network = hlevel (rows-prop, ℕ_set, Bool-set)

pub grounded-prop : (problem : Problem) → IsProp (IsGrounded problem)
grounded-prop problem = hlevel (network-prop, Bool-set)
