-- The numbers to which a number leads along pairs.
use Rattle.std.specs.Prelude.{◌≡◌, ℕ, ◌⊎◌, ◌↔◌, List, Contains}
use Rattle.htn_order.specs.Closure.{Precedes}
use Rattle.hddl_names.specs.Rows.{AreRows}

-- one number leads to another along any number of the pairs, or none
abbrev pub Reaches : List (ℕ × ℕ) → ℕ → ℕ → Type 0
Reaches pairs a b = (a ≡ b) ⊎ Precedes pairs a b

-- the list has exactly what the number reaches along the pairs of the rows
abbrev pub IsReached : List (List ℕ) → ℕ → List ℕ → Type 0
IsReached rows start found =
    (pairs : List (ℕ × ℕ)) → AreRows pairs rows → (x : ℕ) → Contains found x ↔ Reaches pairs start x

-- the list has exactly what some of the numbers reach
abbrev pub IsAboveSome : List (ℕ × ℕ) → List ℕ → List ℕ → Type 0
IsAboveSome pairs starts found = (x : ℕ) → Contains found x ↔ ((t : ℕ) × Contains starts t × Reaches pairs t x)

-- the list has exactly what some of the numbers reach along the pairs of the rows
abbrev pub AreReached : List (List ℕ) → List ℕ → List ℕ → Type 0
AreReached rows starts found = (pairs : List (ℕ × ℕ)) → AreRows pairs rows → IsAboveSome pairs starts found
