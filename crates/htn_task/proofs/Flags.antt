-- Flags by number, of which those past the end of the list are false.
use Rattle.std.proofs.Common.{◌≡◌, ◌∙◌, ◌||◌, ◌<◌, ◌++◌, ◌∷◌, [], ℕ, zero, suc, nat_eq, Bool, true, false, true≢false, List, length, get_or, set, refl, sym, subst, inl, inr}
use Rattle.std.proofs.lemmas.Bool.{cases_Bool, eq-eqb, eqb-true}
use Rattle.std.proofs.lemmas.List.{get_or-set_same, get_or-set_other}

-- an alternative that holds
or_true : (a b : Bool) → b ≡ true → (a || b) ≡ true
or_true true b holds = refl
or_true false b holds = holds

-- one that does not
or_false : (a b : Bool) → b ≡ false → (a || b) ≡ a
or_false true b fails = refl
or_false false b fails = fails

-- three alternatives
pub or_assoc : (a b c : Bool) → ((a || b) || c) ≡ (a || (b || c))
or_assoc true b c = refl
or_assoc false b c = refl

-- none at all
pub or_none : (a : Bool) → (a || false) ≡ a
or_none a = or_false a false refl

-- setting one flag leaves the others
pub flag_set : (flags : List Bool) (place p : ℕ) → place < length flags → get_or (set flags place true) p false ≡ (get_or flags p false || nat_eq place p)
flag_set flags place p inside =
    elim (cases_Bool (nat_eq place p)) [
      | inl here ↦ subst (λ q. get_or (set flags place true) q false ≡ (get_or flags q false || nat_eq place q)) (eqb-true place p here)
          (get_or-set_same flags place true false inside ∙ sym (or_true (get_or flags place false) (nat_eq place place) (eq-eqb place place refl)))
      | inr other ↦ get_or-set_other flags place p true false (λ same. true≢false (sym (eq-eqb place p (sym same)) ∙ other))
          ∙ sym (or_false (get_or flags p false) (nat_eq place p) other)
    ]

-- one more false flag at the end changes none
pub false_pushed : (flags : List Bool) (p : ℕ) → get_or (flags ++ false ∷ []) p false ≡ get_or flags p false
false_pushed [] zero = refl
false_pushed [] (suc p) = refl
false_pushed (m ∷ flags) zero = refl
false_pushed (m ∷ flags) (suc p) = false_pushed flags p
