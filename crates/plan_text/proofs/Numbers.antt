-- The number that digits write, digit by digit.
use Rattle.std.proofs.Common.{◌≡◌, ℕ, ◌+◌, ◌*◌, ◌-◌, ◌<◌, ◌≤◌, true, false, List, [], ◌∷◌, length, drop, get_or, drop-cons, refl, sym, ap, ◌∙◌, arith, add-one}
use Rattle.std.proofs.lemmas.Bool.Decides.{nat_tests}
use Rattle.std.proofs.lemmas.List.Folds.{list_all_at}
use Rattle.plan_text.proofs.Cases.{when}
use Rattle.std.specs.Char.{digit_value, is_ascii_digit}
use Rattle.std.specs.List.{list_all}
use Rattle.std.specs.Str.Parse.{digits_value, digits_value_after}

-- more digits make no number smaller
pub at_least : (n : ℕ) (ds : List ℕ) → n ≤ digits_value_after 10 n ds
at_least n [] = omega arith
at_least n (d ∷ ds) = let more = at_least (n * 10 + digit_value d) ds in omega arith

-- one digit more of the number
pub digits_step : (ds : List ℕ) (i n : ℕ) → i < length ds → digits_value_after 10 n (drop i ds) ≡ digits_value_after 10 (n * 10 + digit_value (get_or ds i 0)) (drop (i + 1) ds)
digits_step ds i n inside = rw (add-one, drop-cons ds i 0)

-- the value of a digit
pub digit_of : (d : ℕ) → is_ascii_digit d ≡ true → digit_value d ≡ d - 48
digit_of d digit = grind (arith, nat_tests)

-- each byte of a number is a digit
pub all_at : (ds : List ℕ) (i : ℕ) → i < length ds → list_all is_ascii_digit ds ≡ true → is_ascii_digit (get_or ds i 0) ≡ true
all_at ds i inside all = when (is_ascii_digit (get_or ds i 0))
    (λ digit. digit)
    (λ other. let none_all = list_all_at is_ascii_digit ds i 0 inside other in cc)
