-- Orders of a shape: total in the sequence of the list, none at all, and one with a first node.
use Rattle.std.specs.Prelude.{◌≡◌, ℕ, ◌||◌, ◌&&◌, ◌+◌, ◌-◌, Bool, true, false, cond, eqb, ltb, length}
use Rattle.htn_model.specs.Problem.{Order, is_before}
use Rattle.htn_model.specs.Machine.{table}

-- each position before all later ones
abbrev pub chain : ℕ → Order
chain n = table n ltb

-- no position before another
abbrev pub unordered : ℕ → Order
unordered n = table n (λ a b. false)

-- row a has the first k entries that the test gives it too
abbrev pub IsRowAdded : (ℕ → ℕ → Bool) → ℕ → ℕ → Order → Order → Type 0
IsRowAdded test a k old new = (x y : ℕ) → is_before new x y ≡ (is_before old x y || (eqb x a && (ltb y k && test a y)))

-- a new position 0 before all others, which keep their order
abbrev pub is_before_with_first : Order → ℕ → ℕ → Bool
is_before_with_first order a b = cond (eqb b 0) false (cond (eqb a 0) true (is_before order (a - 1) (b - 1)))

-- an order with a node more in front of all others
abbrev pub with_first : Order → Order
with_first order = table (length order + 1) (is_before_with_first order)
