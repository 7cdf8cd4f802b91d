-- Numbers that have rows.
use Rattle.std.proofs.Common.{ℕ, ◌<◌, List, [], subst, ⊎_elim, length, get_or}
use Rattle.std.specs.List.{Contains}
use Rattle.std.proofs.lemmas.Bool.{cases_lt}
use Rattle.std.proofs.lemmas.List.{get_or_past}
use Rattle.hddl_names.proofs.Within.{nothing}

-- a number with a row that is not empty is one of those that have rows
pub has_row : (rows : List (List ℕ)) (a x : ℕ) → Contains (get_or rows a []) x → a < length rows
has_row rows a x h =
    ⊎_elim (λ lt. lt) (λ past. absurd (nothing x (subst (λ row. Contains row x) (get_or_past rows a [] past) h))) (cases_lt a (length rows))
