-- Outputs are tame, and colour is all that their sequences add.
use Rattle.std.proofs.Common.{◌≡◌, ℕ, suc, ◌||◌, ◌&&◌, Bool, true, false, eqb, leb, List, [], ◌∷◌, ◌++◌, map, refl, ap, ◌∙◌, ⊎_elim, arith}
use Rattle.std.proofs.lemmas.Bool.{cases_Bool}
use Rattle.std.proofs.lemmas.Bool.Decides.{nat_tests}
use Rattle.std.specs.List.{AllPass}
use Rattle.diagnostics.specs.Shown.{shown}
use Rattle.diagnostics.specs.declared.ink.Style.{Style}
use Rattle.diagnostics.specs.declared.ink.Style.TheVariants as style
use Rattle.diagnostics.specs.Ink.{Ink, begin, end, words, file, feed, sequence, written}
use Rattle.diagnostics.specs.Tame.{is_tame, IsTame, none, byte, begins, ends, plain, HasTameNames}

-- a tab or printable ASCII
tame_as_is : (b : ℕ) → (eqb b 9 || (leb 32 b && leb b 126)) ≡ true → is_tame b ≡ true
tame_as_is b is = grind (arith, nat_tests, is)

-- what is shown is tame
shown_tame : (b : ℕ) → is_tame (shown b) ≡ true
shown_tame b = ⊎_elim (λ as_is. rw as_is (tame_as_is b as_is)) (λ hidden. rw hidden refl) (cases_Bool (eqb b 9 || (leb 32 b && leb b 126)))

-- a tame byte begins no sequence
no_escape : (b : ℕ) → is_tame b ≡ true → eqb b 27 ≡ false
no_escape b is = grind (arith, nat_tests, is)

-- ---- tame

module _ (colour : Bool) where
  tame_words : (bytes rest : List ℕ) → IsTame colour rest → IsTame colour (map shown bytes ++ rest)
  tame_words [] rest h = h
  tame_words (b ∷ bytes) rest h = byte (shown_tame b) (tame_words bytes rest h)

  tame_name : (name rest : List ℕ) → AllPass is_tame name → IsTame colour rest → IsTame colour (name ++ rest)
  tame_name [] rest all h = h
  tame_name (b ∷ name) rest all h = byte (all 0 b (omega arith)) (tame_name name rest (λ k d lt. all (suc k) d (omega arith)) h)

pub tame : (colour : Bool) (inks : List Ink) → HasTameNames inks → IsTame colour (written colour inks)
tame colour [] h = none
tame true (begin s ∷ inks) h = begins s refl (tame true inks h)
tame false (begin s ∷ inks) h = tame false inks h
tame true (end ∷ inks) h = ends refl (tame true inks h)
tame false (end ∷ inks) h = tame false inks h
tame colour (words bytes ∷ inks) h = tame_words colour bytes (written colour inks) (tame colour inks h)
tame colour (file name ∷ inks) h = tame_name colour name (written colour inks) h.0 (tame colour inks h.1)
tame colour (feed ∷ inks) h = byte refl (tame colour inks h)

-- ---- dress

plain_words : (bytes rest : List ℕ) → plain false (map shown bytes ++ rest) ≡ map shown bytes ++ plain false rest
plain_words [] rest = refl
plain_words (b ∷ bytes) rest = rw (no_escape (shown b) (shown_tame b)) (ap (λ l. shown b ∷ l) (plain_words bytes rest))

plain_name : (name rest : List ℕ) → AllPass is_tame name → plain false (name ++ rest) ≡ name ++ plain false rest
plain_name [] rest all = refl
plain_name (b ∷ name) rest all =
    let here : is_tame b ≡ true = all 0 b (omega arith) in
    rw (no_escape b here) (ap (λ l. b ∷ l) (plain_name name rest (λ k d lt. all (suc k) d (omega arith))))

plain_sequence : (s : Style) (rest : List ℕ) → plain false (sequence s ++ rest) ≡ plain false rest
plain_sequence style.Bold rest = refl
plain_sequence style.Dim rest = refl
plain_sequence style.Error rest = refl
plain_sequence style.Good rest = refl
plain_sequence style.Warning rest = refl
plain_sequence style.Note rest = refl
plain_sequence style.Rule rest = refl

pub dress : (inks : List Ink) → HasTameNames inks → plain false (written true inks) ≡ written false inks
dress [] h = refl
dress (begin s ∷ inks) h = plain_sequence s (written true inks) ∙ dress inks h
dress (end ∷ inks) h = dress inks h
dress (words bytes ∷ inks) h = plain_words bytes (written true inks) ∙ ap (λ l. map shown bytes ++ l) (dress inks h)
dress (file name ∷ inks) h = plain_name name (written true inks) h.0 ∙ ap (λ l. name ++ l) (dress inks h.1)
dress (feed ∷ inks) h = ap (λ l. 10 ∷ l) (dress inks h)
