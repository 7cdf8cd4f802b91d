-- Proofs by cases.
use Rattle.std.proofs.Common.{◌≡◌, Bool, true, false, refl}

-- by the value of a test
pub when : (b : Bool) {P : Type 0} → (b ≡ true → P) → (b ≡ false → P) → P
when true then_ else_ = then_ refl
when false then_ else_ = else_ refl
