-- The transitive closure of pairs of positions.
use Rattle.std.specs.Prelude.{◌≡◌, ℕ, ◌+◌, ◌-◌, ◌<◌, true, ◌↔◌, List, map, Contains, All}
use Rattle.std.specs.List.{range_with_len}
use Rattle.htn_model.specs.Problem.{Order, is_before}

-- a leads to b along one or more of the pairs
pub data Precedes (pairs : List (ℕ × ℕ)) : ℕ → ℕ → Type 0 where
  Direct : (a b : ℕ) → Contains pairs (a, b) → Precedes pairs a b
  Through : (a b c : ℕ) → Contains pairs (a, b) → Precedes pairs b c → Precedes pairs a c

-- both positions of each pair are below n
abbrev pub AreBelow : ℕ → List (ℕ × ℕ) → Type 0
AreBelow n = All (λ p. (p.0 < n) × (p.1 < n))

-- the order has a position before another exactly where the first leads to the second
abbrev pub IsClosureOf : List (ℕ × ℕ) → Order → Type 0
IsClosureOf pairs order = (a b : ℕ) → (is_before order a b ≡ true) ↔ Precedes pairs a b

-- no position leads to itself
abbrev pub IsAcyclic : List (ℕ × ℕ) → Type 0
IsAcyclic pairs = (a : ℕ) → Precedes pairs a a → ⊥

-- each of n positions but the last with the next
abbrev pub successors : ℕ → List (ℕ × ℕ)
successors n = map (λ k. (k, k + 1)) (range_with_len 0 (n - 1))
