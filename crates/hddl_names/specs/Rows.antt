-- Pairs of numbers, stored as a list for each first number.
use Rattle.std.specs.Prelude.{ℕ, ◌<◌, ◌↔◌, List, [], map, length, get_or, Vec, Contains, All}

-- the contents of vectors
abbrev pub lists_of : {A : Type 0} → List (Vec ℕ A) → List (List ℕ)
lists_of vectors = map (λ v. v.items) vectors

-- each list has numbers of lists only
abbrev pub AreWithin : List (List ℕ) → Type 0
AreWithin rows = All (All (λ x. x < length rows)) rows

-- the list of each number has the second numbers of its pairs
abbrev pub AreRows : List (ℕ × ℕ) → List (List ℕ) → Type 0
AreRows pairs rows = (a b : ℕ) → Contains (get_or rows a []) b ↔ Contains {X = ℕ × ℕ} pairs (a, b)

-- each pair the other way round
abbrev pub turned : List (ℕ × ℕ) → List (ℕ × ℕ)
turned pairs = map (λ p. (p.1, p.0)) pairs

-- the lists have the same pairs
abbrev pub HasSame : List (ℕ × ℕ) → List (ℕ × ℕ) → Type 0
HasSame xs ys = (x : ℕ × ℕ) → Contains xs x ↔ Contains ys x
