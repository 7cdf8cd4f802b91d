-- Which of some ordered nodes are free, and which of them comes next.
use Rattle.std.specs.Prelude.{ℕ, suc, List, [], ◌∷◌, ◌++◌, length, get_or, take, drop, Option, Bool, true, false, ◌&&◌, filter, slice_get}
use Rattle.std.specs.List.{range_with_len}
use Rattle.htn_model.specs.Problem.{Child, precondition, is_compound}

-- whether a list is empty
abbrev pub is_empty : {X : Type 0} → List X → Bool
is_empty [] = true
is_empty (x ∷ xs) = false

-- the numbers below n that pass, ascending
abbrev pub passing : (ℕ → Bool) → ℕ → List ℕ
passing test n = filter test (range_with_len 0 n)

-- no node is before it
abbrev pub is_free : ℕ → (ℕ → ℕ → Bool) → ℕ → Bool
is_free n precedes i = is_empty (passing (λ k. precedes k i) n)

-- the free node at that position among the free ones
abbrev pub nth_free : ℕ → (ℕ → ℕ → Bool) → ℕ → Option ℕ
nth_free n precedes k = slice_get (passing (is_free n precedes) n) k

-- the node at a position of a network
abbrev pub child_of : List Child → ℕ → Child
child_of children i = get_or children i (precondition [])

-- the position of the first compound task that is free, if there is one
abbrev pub first_free_compound : List Child → (ℕ → ℕ → Bool) → Option ℕ
first_free_compound children precedes =
    slice_get (passing (λ i. is_compound (child_of children i) && is_free (length children) precedes i) (length children)) 0

-- the list with others in the place of the element at i
abbrev pub splice : {X : Type 0} → ℕ → List X → List X → List X
splice i ys xs = take i xs ++ (ys ++ drop (suc i) xs)
