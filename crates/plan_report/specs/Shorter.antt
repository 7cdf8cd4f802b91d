-- Causes of which only the first numbers are shown.
use Rattle.std.specs.Prelude.{◌≡◌, ℕ, ◌+◌, ◌-◌, ◌^◌, min, length, take}
use Rattle.plan_causes.specs.declared.structure.WrongIds.{WrongIds}
use Rattle.plan_causes.specs.declared.reason.Cause.{Cause}
use Rattle.plan_causes.specs.declared.reason.Cause.TheVariants as cause

-- of the numbers with which something is wrong, one list after the other, the first ones
pub record AreFirst (most : ℕ) (all first : WrongIds) : Type 0 where
  pub defined_twice : first.defined_twice.items ≡ take most all.defined_twice.items
  pub listed_twice : first.listed_twice.items ≡ take (most - length all.defined_twice.items) all.listed_twice.items
  pub undefined : first.undefined.items ≡ take (most - length all.defined_twice.items - length all.listed_twice.items) all.undefined.items
  pub unlisted : first.unlisted.items
      ≡ take (most - length all.defined_twice.items - length all.listed_twice.items - length all.undefined.items) all.unlisted.items

-- how many they are, as far as 64 bits hold it
abbrev pub count_of : WrongIds → ℕ
count_of ids =
    let listed = length ids.listed_twice.items + length ids.undefined.items in
    min (min (length ids.defined_twice.items + listed) (2 ^ 64 - 1) + length ids.unlisted.items) (2 ^ 64 - 1)

-- a cause with at most `most` of its wrong numbers, and how many of them are left out
abbrev pub IsShorter : ℕ → Cause → Cause → ℕ → Type 0
IsShorter most (cause.Structure all unreached) (cause.Structure first same) left = AreFirst most all first × (same ≡ unreached) × (left ≡ count_of all - most)
IsShorter most whole shown left = (shown ≡ whole) × (left ≡ 0)
