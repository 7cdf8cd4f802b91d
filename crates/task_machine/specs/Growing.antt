-- Tables of networks in which more nodes and networks have numbers.
use Rattle.std.specs.Prelude.{◌≡◌, ℕ, List, All, map}
use Rattle.htn_model.specs.Problem as model
use Rattle.network_table.specs.Expansions.{IsSound, Live}
use Rattle.network_table.specs.Networks.{children, expansion_at, IsGrown, IsWhole, Knows, network_at}
use Rattle.network_table.specs.Numbered.{IsWithin, Numbered, network_of}
use Rattle.network_table.specs.declared.table.NetworkTable.{NetworkTable}

-- more nodes and networks have numbers, and what is remembered is as it was
pub record IsWider (old new : NetworkTable) : Type 0 where
  pub whole : IsWhole new
  pub grown : IsGrown old new
  pub remembered : (n : ℕ) → expansion_at new n ≡ expansion_at old n
  pub sound : (live : Live) → IsSound live old → IsSound live new

-- the numbered network stands for this one
abbrev pub StandsFor : NetworkTable → Numbered → model.Network → Type 0
StandsFor t n network = IsWithin (children t) n × (network_of (children t) n ≡ network)

-- the numbered networks stand for these, in their order
abbrev pub StandFor : NetworkTable → List Numbered → List model.Network → Type 0
StandFor t ns networks = All (IsWithin (children t)) ns × (map (network_of (children t)) ns ≡ networks)

-- the network has this number
abbrev pub IsAt : NetworkTable → ℕ → model.Network → Type 0
IsAt t n network = Knows t n × (network_at t n ≡ network)
