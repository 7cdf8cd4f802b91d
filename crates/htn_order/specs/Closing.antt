-- A closure that is being made.
use Rattle.std.specs.Prelude.{◌≡◌, ℕ, ◌||◌, ◌&&◌, Bool, true, false, eqb, List, length, get_or}
use Rattle.htn_model.specs.Problem.{Order, is_before, IsClosed, IsSquare}
use Rattle.htn_order.specs.Closure.{Precedes, AreBelow}

-- a closed order that has no more than the pairs lead to, and a mark on each position that has some position before it
pub record IsClosing (pairs : List (ℕ × ℕ)) (order : Order) (entered : List Bool) : Type 0 where
  pub below : AreBelow (length order) pairs
  pub square : IsSquare (length order) order
  pub wide : length entered ≡ length order
  pub closed : IsClosed order
  pub sound : (x y : ℕ) → is_before order x y ≡ true → Precedes pairs x y
  pub marked : (x y : ℕ) → is_before order x y ≡ true → get_or entered y false ≡ true

-- the new order has all that the old one has
abbrev pub Grows : Order → Order → Type 0
Grows old new = (x y : ℕ) → is_before old x y ≡ true → is_before new x y ≡ true

-- the order once a is before b too, with all that follows
abbrev pub joined : Order → ℕ → ℕ → ℕ → ℕ → Bool
joined order a b x y = is_before order x y || ((eqb x a || is_before order x a) && (eqb y b || is_before order b y))

-- a has b behind it
abbrev pub HasPair : Order → ℕ × ℕ → Type 0
HasPair order pair = is_before order pair.0 pair.1 ≡ true
