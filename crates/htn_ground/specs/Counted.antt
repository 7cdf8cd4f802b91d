-- Numbers that may be too great for 64 bits.
use Rattle.std.specs.Prelude.{◌^◌, List, None, Option, Some, cond, nat_lt, ℕ}
use Rattle.htn_model.specs.Instance.{Instance}

-- a number, or none where it does not fit 64 bits
abbrev pub fitting : ℕ → Option ℕ
fitting n = cond (nat_lt n (2 ^ 64)) (Some n) None

-- values with their number, or none where it does not fit
abbrev pub fitted : ℕ × List ℕ → Option ℕ × List ℕ
fitted p = (fitting p.0, p.1)

-- an instance with its number, or none where it does not fit
abbrev pub counted : ℕ × Instance → Option ℕ × Instance
counted p = (fitting p.0, p.1)
