-- Ids of nodes.
use Rattle.std.specs.Prelude.{ℕ, ◌^◌, cond, nat_lt, Option, Some, None}

-- a place as an id, which has 32 bits
abbrev pub small_id : Option ℕ → Option ℕ
small_id None = None
small_id (Some place) = cond (nat_lt place (2 ^ 32)) (Some place) None
