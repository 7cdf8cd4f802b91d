-- Bytes in lower case.
use Rattle.std.proofs.Common.{◌≡◌, ℕ, List, [], ◌∷◌, refl, false, arith}
use Rattle.std.proofs.lemmas.Bool.Decides.{nat_tests}
use Rattle.std.specs.List.{list_any}
use Rattle.std.specs.Char.{is_ascii_uppercase, to_ascii_lowercase}
use Rattle.hddl_meaning.specs.Mentions.{folded}

-- a byte that is no capital letter is in lower case
same : (x : ℕ) → is_ascii_uppercase x ≡ false → to_ascii_lowercase x ≡ x
same x e = grind (arith, nat_tests)

-- bytes of which none is a capital letter are in lower case
pub in_lower_case : (bytes : List ℕ) → list_any is_ascii_uppercase bytes ≡ false → folded bytes ≡ bytes
in_lower_case [] h = refl
in_lower_case (b ∷ bytes) h = grind (arith, same, in_lower_case bytes)
