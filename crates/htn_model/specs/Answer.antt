-- The answer for a bound, and the least finishing word.
use Rattle.std.specs.Prelude.{◌≡◌, ℕ, suc, ◌<◌, ◌≤◌, ◌⊎◌, List, [], ◌∷◌, length, Option, Some, None, ⊤}
use Rattle.htn_model.specs.Problem.{Problem}
use Rattle.htn_model.specs.Tree.{Solution, IsSolution, total_size}
use Rattle.htn_model.specs.Code.{IsCode}
use Rattle.htn_model.specs.Machine.{Finishes}

-- the lists are equal, or the first is smaller where they first differ
abbrev pub IsNoGreater : List ℕ → List ℕ → Type 0
IsNoGreater [] w = ⊤
IsNoGreater (x ∷ v) [] = ⊥
IsNoGreater (x ∷ v) (y ∷ w) = (x < y) ⊎ ((x ≡ y) × IsNoGreater v w)

-- the first solution has fewer nodes than the second, or as many and no greater code
abbrev pub IsNoWorse : Problem → Solution → Solution → Type 0
IsNoWorse problem s other =
    (total_size s.trees < total_size other.trees)
    ⊎ ((total_size s.trees ≡ total_size other.trees) × ((v w : List ℕ) → IsCode problem s v → IsCode problem other w → IsNoGreater v w))

-- none if no solution is within the bound, and otherwise the solution of fewest nodes and then of least code
abbrev pub IsAnswer : Problem → ℕ → Option Solution → Type 0
IsAnswer problem bound None = (s : Solution) → IsSolution problem s → bound < total_size s.trees
IsAnswer problem bound (Some s) =
    IsSolution problem s × (total_size s.trees ≤ bound) × ((other : Solution) → IsSolution problem other → IsNoWorse problem s other)

-- the first word is shorter than the second, or as long and no greater
abbrev pub IsNoLater : List ℕ → List ℕ → Type 0
IsNoLater v w = (length v < length w) ⊎ ((length v ≡ length w) × IsNoGreater v w)

-- none if no word within the bound on steps finishes, and otherwise the shortest and then least word that does
abbrev pub IsLeastWord : Problem → ℕ → Option (List ℕ) → Type 0
IsLeastWord problem bound None = (word : List ℕ) → Finishes problem word → suc bound < length word
IsLeastWord problem bound (Some word) =
    Finishes problem word × (length word ≤ suc bound) × ((other : List ℕ) → Finishes problem other → IsNoLater word other)

-- both none, or a solution with its code
abbrev pub AnswersBy : Problem → Option (List ℕ) → Option Solution → Type 0
AnswersBy problem None None = ⊤
AnswersBy problem None (Some s) = ⊥
AnswersBy problem (Some word) None = ⊥
AnswersBy problem (Some word) (Some s) = IsSolution problem s × IsCode problem s word
