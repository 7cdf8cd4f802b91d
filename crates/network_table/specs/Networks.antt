-- The networks that have numbers.
use Rattle.std.specs.Prelude.{◌≡◌, ℕ, ◌<◌, ◌^◌, ◌-◌, ◌++◌, List, map, length, get_or, All, Option, None, Some, min}
use Rattle.std.specs.List.{sum_by}
use Rattle.htn_model.specs.PlanFile.{IsWithoutRepeats}
use Rattle.htn_model.specs.Problem.{Child, Network}
use Rattle.network_table.specs.Numbered.{Numbered, nothing, network_of, IsWithin}
use Rattle.network_table.specs.Children.{AreKept, AreWhole, numbered_children}
use Rattle.network_table.specs.declared.child_table.ChildTable.{ChildTable}
use Rattle.network_table.specs.declared.expansion.Expansion.{Expansion}
use Rattle.network_table.specs.declared.table.NetworkTable.{NetworkTable}

-- the nodes that have numbers
abbrev pub children : NetworkTable → List Child
children t = numbered_children t.children

-- a network has this number
abbrev pub Knows : NetworkTable → ℕ → Type 0
Knows t n = n < length t.networks

-- the network of a number, its nodes by numbers
abbrev pub numbered_at : NetworkTable → ℕ → Numbered
numbered_at t n = get_or t.networks n nothing

-- what a number stands for
abbrev pub network_at : NetworkTable → ℕ → Network
network_at t n = network_of (children t) (numbered_at t n)

-- what is remembered of a number
abbrev pub expansion_at : NetworkTable → ℕ → Option Expansion
expansion_at t n = get_or t.expansions.items n None

-- the sum of the nodes' bounds, as far as a word holds it
abbrev pub bound_of : ChildTable → Numbered → ℕ
bound_of t n = min (sum_by (λ id. get_or t.bounds.items id 0) n.nodes) (2 ^ 64 - 1)

-- no network has two numbers, all nodes have one, and each number has its count of nodes and its bound
pub record IsWhole (t : NetworkTable) : Type 0 where
  pub nodes : AreWhole t.children
  pub distinct : IsWithoutRepeats t.networks
  pub within : All (IsWithin (children t)) t.networks
  pub open_lens : t.open_lens.items ≡ map (λ (n : Numbered). length n.nodes) t.networks
  pub bounds : t.bounds.items ≡ map (bound_of t.children) t.networks
  pub expansions : length t.expansions.items ≡ length t.networks

-- more networks have numbers, and all else is as it was
pub record IsMore (old new : NetworkTable) : Type 0 where
  pub children : new.children ≡ old.children
  pub more : List Numbered
  pub networks : new.networks ≡ old.networks ++ more
  pub expansions : (n : ℕ) → expansion_at new n ≡ expansion_at old n

-- what had a number keeps it, and what was remembered of it
pub record IsGrown (old new : NetworkTable) : Type 0 where
  pub children : AreKept old.children new.children
  pub more : List Numbered
  pub networks : new.networks ≡ old.networks ++ more
  pub expansions : (n : ℕ) (e : Expansion) → expansion_at old n ≡ Some e → expansion_at new n ≡ Some e

-- the network has this number
abbrev pub IsNumberOf : NetworkTable → ℕ → Numbered → Type 0
IsNumberOf t n x = Knows t n × (numbered_at t n ≡ x)

-- a number stands for what it stood for
abbrev pub NumbersStay : Type 0
NumbersStay =
    (old new : NetworkTable) (n : ℕ) → IsWhole old → IsGrown old new → Knows old n
    → Knows new n × (network_at new n ≡ network_at old n)

-- no two numbers stand for the same network
abbrev pub NumbersDiffer : Type 0
NumbersDiffer =
    (t : NetworkTable) (m n : ℕ) → IsWhole t → Knows t m → Knows t n → network_at t m ≡ network_at t n → m ≡ n
