-- Whether predicates are fluent, as flags by their numbers.
use Rattle.std.specs.Prelude.{◌≡◌, ℕ, Bool, List, false, get_or}
use Rattle.htn_model.specs.Grounding.{is_changed}
use Rattle.htn_model.specs.Task.{Task}

-- the flag of each predicate says whether an effect names it; a number past the end of the list has the flag false
abbrev pub AreFluents : Task → List Bool → Type 0
AreFluents t flags = (predicate : ℕ) → get_or flags predicate false ≡ is_changed t predicate
