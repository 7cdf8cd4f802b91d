-- Keywords that are picked by their numbers.
use Rattle.std.specs.Prelude.{◌≡◌, ℕ, List, slice_get, Some, Contains}
use Rattle.std.specs.List.{All}
use Rattle.diagnostics.specs.declared.diagnostic.Role.{Role}
use Rattle.text_messages.specs.Following.{MayFollow}

-- each has one of the numbers, and may follow some bytes
abbrev pub ArePicked : Role → List ℕ → List (List ℕ) → List ℕ → List (List ℕ) → Type 0
ArePicked r before keywords numbers found =
    All (λ name. MayFollow r before name × ((k : ℕ) × Contains numbers k × (slice_get keywords k ≡ Some name))) found
