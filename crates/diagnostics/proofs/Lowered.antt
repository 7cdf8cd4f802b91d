-- Texts that have a character for each byte of a name.
use Rattle.std.specs.Prelude.{◌≡◌, ℕ, suc, ◌+◌, ◌<◌, true, List, [], ◌∷◌, ◌++◌, length, take, get_or, encode_utf8, encode_utf8_all}
use Rattle.std.specs.Str.{chars, str_to_ascii_lowercase}
use Rattle.std.specs.Char.{to_ascii_lowercase}
use Rattle.std.proofs.Common.{Fits, w8, arith, ◌∙◌, ap, refl, add-one}
use Rattle.std.proofs.Math.Utf8.{scalar, scalars}
use Rattle.std.proofs.Math.Seq.{take-suc}
use Rattle.std.proofs.lemmas.List.{map-append, append-nil}
use Rattle.std.proofs.lemmas.Str.{encodes-append, chars-encodes}
use Rattle.std.proofs.lemmas.Bool.{and_from}

-- one byte more
pub lowered-more : (name : List ℕ) (i : ℕ) → i < length name → encode_utf8_all (str_to_ascii_lowercase (take (i + 1) name)) ≡ encode_utf8_all (str_to_ascii_lowercase (take i name)) ++ encode_utf8 (to_ascii_lowercase (get_or name i 0))
lowered-more name i below =
    let one = to_ascii_lowercase (get_or name i 0) in
    ap (λ xs. encode_utf8_all (str_to_ascii_lowercase xs)) (ap (λ n. take n name) (add-one i) ∙ take-suc name i 0 below)
    ∙ ap encode_utf8_all (map-append to_ascii_lowercase (take i name) (get_or name i 0 ∷ []))
    ∙ encodes-append (str_to_ascii_lowercase (take i name)) (one ∷ [])
    ∙ ap (λ b. encode_utf8_all (str_to_ascii_lowercase (take i name)) ++ b) (append-nil (encode_utf8 one))

scalar_lower : (b : ℕ) → Fits w8 b → scalar (to_ascii_lowercase b) ≡ true
scalar_lower b low = grind arith

scalars-lower : (name : List ℕ) → ((i : ℕ) → Fits w8 (get_or name i 0)) → scalars (str_to_ascii_lowercase name) ≡ true
scalars-lower [] low = refl
scalars-lower (b ∷ name) low = and_from _ _ (scalar_lower b (low 0)) (scalars-lower name (λ i. low (suc i)))

-- the characters of the text are the bytes
pub chars-lowered : (name text : List ℕ) → ((i : ℕ) → Fits w8 (get_or name i 0)) → text ≡ encode_utf8_all (str_to_ascii_lowercase name) → chars text ≡ str_to_ascii_lowercase name
chars-lowered name text low e = ap chars e ∙ chars-encodes (str_to_ascii_lowercase name) (scalars-lower name low)
