-- How near names are to each other, and which a misspelt name may stand for.
use Rattle.std.specs.Prelude.{ℕ, ◌+◌, ◌/◌, Bool, not, ◌&&◌, if◌then◌else◌, nat_lt, nat_le, nat_eq, min, max, List, [], ◌∷◌, length, take, map, fold, Option, Some, None, false}
use Rattle.std.specs.Borrow.{Bor}
use Rattle.std.specs.List.{list_all}
use Rattle.std.specs.Str.{str_to_ascii_lowercase}
use Rattle.strsim.specs.Edits.{osa_table}

-- How many edits lead from one list to the other: an element is put in, taken out or replaced, or two neighbours change
-- places, and nothing is edited twice.
abbrev pub alignment : List ℕ → List ℕ → ℕ
alignment xs ys = (osa_table xs ys).last_row (length ys)

-- how many edits lead from one name to the other, both in lower case
abbrev pub distance_of : List ℕ → List ℕ → ℕ
distance_of name other = alignment (str_to_ascii_lowercase name) (str_to_ascii_lowercase other)

-- the most edits that a slip makes in a name of some length: a third of its bytes, 1 at least, none past 100 bytes
abbrev pub slip_len : ℕ → ℕ
slip_len len = if nat_lt 100 len then 0 else max 1 (len / 3)

-- whether a name may be meant for another one: it is not that one itself, and a slip leads to it
abbrev pub may_be_meant : List ℕ → List ℕ → Bool
may_be_meant name other = nat_lt 0 (distance_of name other) && nat_le (distance_of name other) (slip_len (length name))

-- whether a candidate may be meant, and is nearer than some distance
abbrev pub is_nearer : List ℕ → ℕ → List ℕ → Bool
is_nearer name distance other = may_be_meant name other && nat_lt (distance_of name other) distance

-- whether a candidate may be meant, and no other is nearer
abbrev pub is_nearest : List ℕ → List (List ℕ) → List ℕ → Bool
is_nearest name candidates one =
    may_be_meant name one && list_all (λ other. not (is_nearer name (distance_of name one) other)) candidates

-- the indices of the elements that pass, where the first element has an index
abbrev pub indices_from : {X : Type 0} → (X → Bool) → ℕ → List X → List ℕ
indices_from passes index [] = []
indices_from passes index (x ∷ xs) =
    if passes x then index ∷ indices_from passes (index + 1) xs else indices_from passes (index + 1) xs

-- the first three of the nearest, by their indices
abbrev pub nearest_of : List ℕ → List (List ℕ) → List ℕ
nearest_of name candidates = take 3 (indices_from (is_nearest name candidates) 0 candidates)

-- ---- what the code computes

-- the names that slices have
abbrev pub names_of : List (Bor (List ℕ)) → List (List ℕ)
names_of slices = map (λ s. s.now) slices

-- the distance of a candidate that may be meant
abbrev pub score_of : List ℕ → List ℕ → Option ℕ
score_of name other = if may_be_meant name other then Some (distance_of name other) else None

-- the lesser of two scores
abbrev pub lesser : Option ℕ → Option ℕ → Option ℕ
lesser None other = other
lesser (Some one) None = Some one
lesser (Some one) (Some other) = Some (min one other)

-- the least of all
abbrev pub least_of : List (Option ℕ) → Option ℕ
least_of scores = fold lesser None scores

-- whether a score is this one
abbrev pub is_score : Option ℕ → Option ℕ → Bool
is_score None score = false
is_score (Some least) None = false
is_score (Some least) (Some score) = nat_eq score least
