-- Diagnostics grouped by equal texts, whatever their places.
use Rattle.std.specs.Prelude.{◌≡◌, ℕ, Some, zero, suc, nat_eq, if◌then◌else◌, fold, List, [], ◌∷◌, ◌++◌, map, filter_map, slice_get}
use Rattle.std.specs.Cmp.Lexicographic.{pointwise}
use Rattle.std.specs.declared.alloc.Global.{Global}
use Rattle.std.specs.declared.vec.Vec.{Vec}
use Rattle.diagnostics.specs.declared.diagnostic.Diagnostic.{Diagnostic}

module _ (saying : Diagnostic → List ℕ) where
  -- the text of the first diagnostic of a group
  abbrev pub first_saying : List Diagnostic → List ℕ
  first_saying [] = []
  first_saying (d ∷ ds) = saying d

  -- a diagnostic is added at the end of the group with its text, or begins one at the end
  abbrev pub joined : Diagnostic → List (List Diagnostic) → List (List Diagnostic)
  joined d [] = (d ∷ []) ∷ []
  joined d (g ∷ gs) = if pointwise nat_eq (saying d) (first_saying g) then (g ++ d ∷ []) ∷ gs else g ∷ joined d gs

  -- each joins in turn
  abbrev pub folded : List Diagnostic → List (List Diagnostic)
  folded ds = fold (λ gs d. joined d gs) [] ds

-- ---- what the code computes

-- the elements at some indices
abbrev pub picked : List Diagnostic → List ℕ → List Diagnostic
picked ds is = filter_map (slice_get ds) is

-- groups by the indices of their diagnostics
abbrev pub members_of : List Diagnostic → List (Vec ℕ Global) → List (List Diagnostic)
members_of ds gs = map (λ g. picked ds g.items) gs

-- the element at an index joins
abbrev pub JoinsAt : (Diagnostic → List ℕ) → List Diagnostic → ℕ → List (List Diagnostic) → List (List Diagnostic) → Type 0
JoinsAt saying ds index old new = (d : Diagnostic) → slice_get ds index ≡ Some d → new ≡ joined saying d old

-- one diagnostic more in the group at an index
abbrev pub with_one : ℕ → Diagnostic → List (List Diagnostic) → List (List Diagnostic)
with_one i d [] = []
with_one zero d (g ∷ gs) = (g ++ d ∷ []) ∷ gs
with_one (suc i) d (g ∷ gs) = g ∷ with_one i d gs
