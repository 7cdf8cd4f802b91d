use Rattle.std.proofs.Common.{◌≡◌, ◌<◌, ◌^◌, drop}
use Rattle.std.specs.Str.Parse.{digits_value, digits_value_after}
use Rattle.plan_text.proofs.number.value_of.Given as goal

-- the digits that are left, after those of the value, write the number
abbrev pub invariant-loop-digit : goal.invariant-loop-digit
invariant-loop-digit l = record { same : digits_value_after 10 l.value (drop l.digit-index l.digits) ≡ digits_value 10 l.digits; fits : l.value < 2 ^ 64 }
