-- Words as they are shown are text.
use Rattle.std.proofs.Common.{◌<◌, ◌||◌, ◌&&◌, ℕ, zero, suc, nat_eq, nat_le, List, [], ◌∷◌, map, ⊎_elim, arith}
use Rattle.std.proofs.lemmas.Bool.{cases_Bool}
use Rattle.std.proofs.lemmas.Bool.Decides.{nat_tests}
use Rattle.std.proofs.lemmas.Str.{IsUtf8-from_ascii}
use Rattle.std.specs.Str.{IsAscii, IsUtf8}
use Rattle.diagnostics.specs.Shown.{shown}

shown_ascii : (b : ℕ) → shown b < 128
shown_ascii b = ⊎_elim (λ as_is. rw as_is (grind (arith, nat_tests, as_is))) (λ hidden. rw hidden (omega arith)) (cases_Bool (nat_eq b 9 || (nat_le 32 b && nat_le b 126)))

words_ascii : (bytes : List ℕ) → IsAscii (map shown bytes)
words_ascii [] i = omega arith
words_ascii (b ∷ bytes) zero = shown_ascii b
words_ascii (b ∷ bytes) (suc i) = words_ascii bytes i

-- bytes that are shown are UTF-8
pub words_utf8 : (bytes : List ℕ) → IsUtf8 (map shown bytes)
words_utf8 bytes = IsUtf8-from_ascii (map shown bytes) (words_ascii bytes)
