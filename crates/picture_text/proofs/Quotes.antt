-- Labels end where their quotes are.
use Rattle.std.proofs.Common.{◌≡◌, ℕ, ◌<◌, ◌&&◌, ◌||◌, ◌==◌, Bool, true, false, not, nat_lt, cond, List, [], ◌∷◌, ◌++◌, map, codes, refl, ap, ◌∙◌, ⊎_elim, arith}
use Rattle.std.specs.List.{flat_map, list_all}
use Rattle.std.specs.Fmt.{decimal, digit_glyph}
use Rattle.std.proofs.lemmas.Bool.{cases_Bool}
use Rattle.std.proofs.lemmas.Bool.Decides.{nat_tests}
use Rattle.std.proofs.lemmas.List.{append_assoc}
use Rattle.diagnostics.specs.Shown.{shown}
use Rattle.picture_text.specs.Dot.{escape, words_of, position, method, label_rest, quoted_rest}
use Rattle.picture_text.specs.Lines.{Line, action, task}
use Rattle.picture_text.specs.Tame.{AreTame, past_quote}
use Rattle.picture_text.proofs.Tamed.{decimal_pass}

-- behind these bytes a quote is looked for as before
abbrev Skips : List ℕ → Type 0
Skips bytes = (rest : List ℕ) → past_quote false (bytes ++ rest) ≡ past_quote false rest

skips_two : (xs ys : List ℕ) → Skips xs → Skips ys → Skips (xs ++ ys)
skips_two xs ys p q rest = ap (past_quote false) (append_assoc xs ys rest) ∙ p (ys ++ rest) ∙ q rest

-- what stands for one byte ends no label
one_byte : (first second : Bool) (b : ℕ) (rest : List ℕ) → (b == 34) ≡ first → (b == 92) ≡ second
    → past_quote false (cond (first || second) (92 ∷ b ∷ []) (b ∷ []) ++ rest) ≡ past_quote false rest
one_byte true second b rest e h = refl
one_byte false true b rest e h = refl
one_byte false false b rest e h = rw (e, h) refl

skips_escaped : (words : List ℕ) → Skips (flat_map escape words)
skips_escaped [] rest = refl
skips_escaped (b ∷ words) rest = skips_two (escape b) (flat_map escape words) (λ r. one_byte (b == 34) (b == 92) b r refl refl) (skips_escaped words) rest

-- a byte that is neither a quote nor a backslash
abbrev is_plain : ℕ → Bool
is_plain b = not (b == 34 || b == 92)

plain_byte : (first second : Bool) (b : ℕ) (rest : List ℕ) → (b == 34) ≡ first → (b == 92) ≡ second → not (first || second) ≡ true → past_quote false (b ∷ rest) ≡ past_quote false rest
plain_byte true second b rest e h plain = absurd cc
plain_byte false true b rest e h plain = absurd cc
plain_byte false false b rest e h plain = rw (e, h) refl

skips_plain : (bytes : List ℕ) → AreTame is_plain bytes → Skips bytes
skips_plain [] plain rest = refl
skips_plain (b ∷ bytes) plain rest =
    plain_byte (b == 34) (b == 92) b (bytes ++ rest) refl refl (first (is_plain b) (list_all is_plain bytes) plain) ∙ skips_plain bytes (second (is_plain b) (list_all is_plain bytes) plain) rest
  where
    first : (p q : Bool) → (p && q) ≡ true → p ≡ true
    first true q h = refl
    first false q h = absurd cc

    second : (p q : Bool) → (p && q) ≡ true → q ≡ true
    second true q h = h
    second false q h = absurd cc

digit_plain : (d : ℕ) → d < 10 → is_plain (digit_glyph false d) ≡ true
digit_plain d low = ⊎_elim (λ h. rw h (grind (arith, nat_tests))) (λ h. absurd (grind (arith, nat_tests))) (cases_Bool (nat_lt d 10))

skips_number : (n : ℕ) → Skips (decimal n)
skips_number n = skips_plain (decimal n) (decimal_pass is_plain digit_plain n)

skips_position : (number : ℕ) (line : Line) → Skips (position number line)
skips_position number (action line) = skips_two (decimal number) (codes "  ") (skips_number number) (λ rest. refl)
skips_position number (task line) = λ rest. refl

skips_method : (line : Line) → Skips (method line)
skips_method (action line) = λ rest. refl
skips_method (task line) = skips_two (codes "\\n") (flat_map escape (map shown line.method)) (λ rest. refl) (skips_escaped (map shown line.method))

-- a quote ends what is skipped before it
ends : (xs ys rest : List ℕ) → Skips xs → past_quote false (ys ++ rest) ≡ rest → past_quote false ((xs ++ ys) ++ rest) ≡ rest
ends xs ys rest p q = ap (past_quote false) (append_assoc xs ys rest) ∙ p (ys ++ rest) ∙ q

pub quotes_end : (words rest : List ℕ) → past_quote false (quoted_rest words ++ rest) ≡ rest
quotes_end words rest = ends (flat_map escape words) (codes "\"") rest (skips_escaped words) refl

pub labels_end : (number : ℕ) (line : Line) (rest : List ℕ) → past_quote false (label_rest number line ++ rest) ≡ rest
labels_end number line rest =
    ends (position number line) (flat_map escape (words_of line) ++ (method line ++ codes "\"")) rest (skips_position number line)
    (ends (flat_map escape (words_of line)) (method line ++ codes "\"") rest (skips_escaped (words_of line)) (ends (method line) (codes "\"") rest (skips_method line) refl))
