-- How many positions are before another, and the positions by that.
use Rattle.std.specs.Prelude.{◌≡◌, ℕ, zero, suc, ◌<◌, cond, eqb, List, [], ◌∷◌, ◌++◌, Vec, length, get_or, map}
use Rattle.htn_model.specs.Problem.{Order, is_before}
use Rattle.htn_order.specs.Counts.{count_below}

-- among the first n
abbrev pub rank : Order → ℕ → ℕ → ℕ
rank order a n = count_below (λ b. is_before order b a) n

-- those of the first n positions that have the rank r
abbrev pub level : (ℕ → ℕ) → ℕ → ℕ → List ℕ
level rank_of r zero = []
level rank_of r (suc n) = level rank_of r n ++ cond (eqb (rank_of n) r) (n ∷ []) []

-- those of n positions that have a rank below r, by their ranks
abbrev pub levels : (ℕ → ℕ) → ℕ → ℕ → List ℕ
levels rank_of n zero = []
levels rank_of n (suc r) = levels rank_of n r ++ level rank_of r n

-- what vectors hold
abbrev pub lists_of : {A : Type 0} → List (Vec ℕ A) → List (List ℕ)
lists_of vectors = map (λ v. v.items) vectors

-- for each of n ranks, those of the first k positions that have it
pub record AreLevels (rank_of : ℕ → ℕ) (n k : ℕ) (lists : List (List ℕ)) : Type 0 where
  pub size : length lists ≡ n
  pub each : (r : ℕ) → r < n → get_or lists r [] ≡ level rank_of r k

-- for each of the first k ranks, how many of n positions have a smaller one
pub record AreStarts (rank_of : ℕ → ℕ) (n k : ℕ) (starts : List ℕ) : Type 0 where
  pub size : length starts ≡ k
  pub each : (r : ℕ) → r < k → get_or starts r 0 ≡ length (levels rank_of n r)

-- as many positions are before one as have a smaller rank: then they are the same, and else maybe none is
abbrev pub ahead_of : ℕ → ℕ → ℕ × ℕ
ahead_of rank start = (cond (eqb rank start) start 0, start)
