-- Where each child of a network in turn starts as soon as it may and finishes as early as it can, none finishes later
-- than anywhere.
use Rattle.std.proofs.Common.{◌≡◌, ℕ, zero, suc, ◌≤◌, ◌<◌, true, arith}
use Rattle.htn_model.specs.Problem.{Order, is_before}
use Rattle.htn_model.specs.Fits.{AreSpans}

-- room for the child at a position, from a gap to a gap
abbrev pub Room : Type 1
Room = ℕ → ℕ → ℕ → Type 0

-- the order can be gone through by ascending rank
abbrev pub IsRanked : Order → (ℕ → ℕ) → Type 0
IsRanked order rank = (a b : ℕ) → is_before order a b ≡ true → rank a < rank b

-- the greedy spans of the positions of rank below n
pub record IsGreedyBelow (room : Room) (order : Order) (rank : ℕ → ℕ) (g n : ℕ) (start finish : ℕ → ℕ) : Type 0 where
  -- the start is the greatest of g and of the finishes of what is before
  pub first : (a k : ℕ) → rank a < suc n → g ≤ k → ((b : ℕ) → is_before order b a ≡ true → finish b ≤ k) → start a ≤ k
  pub least : (a k : ℕ) → rank a < n → room a (start a) k → finish a ≤ k

module _ (room : Room) (order : Order) (rank : ℕ → ℕ) (g n : ℕ) (start finish : ℕ → ℕ)
    (ranked : IsRanked order rank)
    (monotone : (a x y x' : ℕ) → x' ≤ x → room a x y → room a x' y)
    (greedy : IsGreedyBelow room order rank g n start finish)
    (h : ℕ) (other_start other_finish : ℕ → ℕ) (spans : AreSpans order other_start other_finish g h)
    (rooms : (a : ℕ) → room a (other_start a) (other_finish a)) where
  -- by rank, no child starts or finishes later than in any other spans
  no_later_by : (m a : ℕ) → m ≤ n → rank a < suc m → (start a ≤ other_start a) × (rank a < n → finish a ≤ other_finish a)
  no_later_by zero a small low =
      let starts : start a ≤ other_start a = greedy.first a (other_start a) (omega arith) (spans.from a) (λ b h. absurd (let r = ranked b a h in omega arith)) in
      (starts, λ l. greedy.least a (other_finish a) l (monotone a (other_start a) (other_finish a) (start a) starts (rooms a)))
  no_later_by (suc m) a small low =
      let starts : start a ≤ other_start a = greedy.first a (other_start a) (omega arith) (spans.from a)
      (λ b h. let r = ranked b a h in let o = spans.ordered b a h in
      let e = (no_later_by m b (omega arith) (omega arith)).1 (omega arith) in omega arith) in
      (starts, λ l. greedy.least a (other_finish a) l (monotone a (other_start a) (other_finish a) (start a) starts (rooms a)))

  -- no child starts or finishes later than under any other spans
  pub no_later_start : (a : ℕ) → rank a < suc n → start a ≤ other_start a
  no_later_start a low = (no_later_by n a (let e : n ≤ n = omega arith in e) low).0

  -- no child finishes later than in any other spans
  pub no_later_finish : (a : ℕ) → rank a < n → finish a ≤ other_finish a
  no_later_finish a low = (no_later_by n a (let e : n ≤ n = omega arith in e) (omega arith)).1 low

  -- so where the next child has no room from its start on, no spans give it room
  pub stuck : (a : ℕ) → rank a < suc n → ((k : ℕ) → room a (start a) k → ⊥) → ⊥
  stuck a low none = none (other_finish a) (monotone a (other_start a) (other_finish a) (start a) (no_later_start a low) (rooms a))
