-- Names whose lengths differ are as far from each other at least.
use Rattle.std.specs.Prelude.{◌≡◌, ℕ, zero, suc, ◌+◌, ◌-◌, ◌≤◌, ◌<◌, true, false, if◌then◌else◌, nat_eq, nat_lt, nat_le, ◌&&◌, min, List, [], ◌∷◌, length, Option, Some, None}
use Rattle.std.proofs.Common.{arith, subst, sym, ap}
use Rattle.std.proofs.lemmas.Bool.{and_right, lt-leb}
use Rattle.strsim.specs.Edits.{OsaState, osa_row, osa_from, osa_step, swaps_at, cost_at}
use Rattle.std.specs.Int.{abs_diff}
use Rattle.std.specs.Str.{str_to_ascii_lowercase}
use Rattle.std.specs.Char.{to_ascii_lowercase}
use Rattle.std.proofs.lemmas.List.{length-map}
use Rattle.diagnostics.specs.Near.{alignment, distance_of, score_of, slip_len}

-- each number of a row and its place differ by no more than the row's own place
record IsApart (n : ℕ) (row : ℕ → ℕ) : Type 0 where
  below : (j : ℕ) → n ≤ row j + j
  above : (j : ℕ) → j ≤ row j + n

row_below : (p : Option ℕ) (x : ℕ) (ys : List ℕ) (two one : ℕ → ℕ) (n : ℕ) → IsApart (n - 1) two → IsApart n one → (j : ℕ) → n + 1 ≤ osa_row p x ys two one (n + 1) j + j
unfolding osa_row
row_below p x ys two one n t o zero = omega arith
row_below p x ys two one n t o (suc j) =
    let before = row_below p x ys two one n t o j in
    let first = o.below (suc j) in
    let second = o.below j in
    let third = t.below (j - 1) in
    elim (swaps_at p x ys j) as (λ b. n + 1 ≤ (if b
    then min (min (osa_row p x ys two one (n + 1) j + 1) (min (one (suc j) + 1) (one j + cost_at nat_eq x ys j))) (two (j - 1) + 1)
    else min (osa_row p x ys two one (n + 1) j + 1) (min (one (suc j) + 1) (one j + cost_at nat_eq x ys j))) + suc j)
    [ true ↦ omega (arith, before, first, second, third) | false ↦ omega (arith, before, first, second) ]

row_above : (p : Option ℕ) (x : ℕ) (ys : List ℕ) (two one : ℕ → ℕ) (n : ℕ) → IsApart (n - 1) two → IsApart n one → (j : ℕ) → j ≤ osa_row p x ys two one (n + 1) j + (n + 1)
unfolding osa_row
row_above p x ys two one n t o zero = omega arith
row_above p x ys two one n t o (suc j) =
    let before = row_above p x ys two one n t o j in
    let first = o.above (suc j) in
    let second = o.above j in
    let third = t.above (j - 1) in
    elim (swaps_at p x ys j) as (λ b. suc j ≤ (if b
    then min (min (osa_row p x ys two one (n + 1) j + 1) (min (one (suc j) + 1) (one j + cost_at nat_eq x ys j))) (two (j - 1) + 1)
    else min (osa_row p x ys two one (n + 1) j + 1) (min (one (suc j) + 1) (one j + cost_at nat_eq x ys j))) + (n + 1))
    [ true ↦ omega (arith, before, first, second, third) | false ↦ omega (arith, before, first, second) ]

rows_apart : (ys : List ℕ) (n : ℕ) (s : OsaState) (xs : List ℕ) → s.count ≡ n → IsApart (n - 1) s.row_before → IsApart n s.last_row → IsApart (n + length xs) (osa_from ys s xs).last_row
unfolding osa_from
rows_apart ys n s [] e t o = record { below = λ j. omega (arith, o.below j); above = λ j. omega (arith, o.above j) }
rows_apart ys n s (x ∷ xs) e t o =
    let old : IsApart ((n + 1) - 1) s.last_row = record { below = λ j. omega (arith, o.below j); above = λ j. omega (arith, o.above j) } in
    let Row : ℕ → Type 0 = λ c. IsApart (n + 1) (osa_row s.last_item x ys s.row_before s.last_row (c + 1)) in
    let here : IsApart (n + 1) (osa_row s.last_item x ys s.row_before s.last_row (n + 1)) =
    record { below = row_below s.last_item x ys s.row_before s.last_row n t o; above = row_above s.last_item x ys s.row_before s.last_row n t o } in
    let new = subst Row (sym e) here in
    let all = rows_apart ys (n + 1) (osa_step ys s x) xs (omega (arith, e)) old new in
    record { below = λ j. omega (arith, all.below j); above = λ j. omega (arith, all.above j) }

pub alignment_apart : (xs ys : List ℕ) → (length xs ≤ alignment xs ys + length ys) × (length ys ≤ alignment xs ys + length xs)
alignment_apart xs ys =
    let start : IsApart 0 (λ j. j) = record { below = λ j. omega arith; above = λ j. omega arith } in
    let all = rows_apart ys 0 (record { row_before = λ j. j; last_row = λ j. j; last_item = None; count = 0 }) xs (omega arith) start start in
    (omega (arith, all.below (length ys)), omega (arith, all.above (length ys)))

beyond : (limit d a b : ℕ) → limit < abs_diff a b → a ≤ d + b → b ≤ d + a → limit < d
beyond limit d a b far first second = grind arith

none_chosen : (limit d : ℕ) → limit < d → None ≡ (if nat_lt 0 d && nat_le d limit then Some d else None)
none_chosen limit d far = ap (λ b. if b then Some d else None) (sym (and_right (nat_lt 0 d) (nat_le d limit) (lt-leb d limit far)))

-- a candidate whose length is too far from the name's isn't meant
pub too_far : (name other : List ℕ) → slip_len (length name) < abs_diff (length name) (length other) → None ≡ score_of name other
too_far name other far =
    let apart = alignment_apart (str_to_ascii_lowercase name) (str_to_ascii_lowercase other) in
    let first : length name ≤ distance_of name other + length other = omega (arith, apart.0, length-map name to_ascii_lowercase, length-map other to_ascii_lowercase) in
    let second : length other ≤ distance_of name other + length name = omega (arith, apart.1, length-map name to_ascii_lowercase, length-map other to_ascii_lowercase) in
    none_chosen (slip_len (length name)) (distance_of name other) (beyond (slip_len (length name)) (distance_of name other) (length name) (length other) far first second)
