-- The lines of a text on which places stand, one by one.
use Rattle.std.proofs.Common.{◌≡◌, ℕ, ◌+◌, ◌<◌, ◌++◌, ◌∙◌, List, [], ◌∷◌, append_assoc, ap, get_or, length, map, min, sym, take}
use Rattle.std.specs.Prelude.{count_by}
use Rattle.std.proofs.lemmas.List.{map-append, take_min, take_more}
use Rattle.diagnostics.specs.Places.{is_line_feed, position}

-- the line of a place; past the end of the text that of the end
pub same_line : (text : List ℕ) (place : ℕ) → (position text (min place (length text))).line ≡ (position text place).line
same_line text place = ap (λ t. 1 + count_by is_line_feed t) (take_min place text)

-- one place more
pub line_more : (text places start old new : List ℕ) (i line : ℕ) → i < length places → line ≡ (position text (get_or places i 0)).line
    → old ≡ start ++ map (λ place. (position text place).line) (take i places) → new ≡ old ++ line ∷ []
    → new ≡ start ++ map (λ place. (position text place).line) (take (i + 1) places)
line_more text places start old new i line low is so_far pushed =
    let f : ℕ → ℕ = λ place. (position text place).line in
    let one = ap (map f) (take_more places i 0 low) ∙ map-append f (take i places) (get_or places i 0 ∷ []) in
    pushed
    ∙ ap (λ l. l ++ line ∷ []) so_far
    ∙ ap (λ k. (start ++ map f (take i places)) ++ k ∷ []) is
    ∙ append_assoc start (map f (take i places)) (f (get_or places i 0) ∷ [])
    ∙ ap (λ l. start ++ l) (sym one)

-- those of two lists of places, one after the other
pub lines_of_both : (text table start first second a b x y : List ℕ) → table ≡ text → start ≡ []
    → first ≡ start ++ map (λ place. (position table place).line) a → second ≡ first ++ map (λ place. (position table place).line) b → a ≡ x → b ≡ y
    → second ≡ map (λ place. (position text place).line) (x ++ y)
lines_of_both text table start first second a b x y same empty one two is_x is_y =
    let f : ℕ → ℕ = λ place. (position table place).line in
    two
    ∙ ap (λ l. l ++ map f b) (one ∙ ap (λ l. l ++ map f a) empty)
    ∙ sym (map-append f a b)
    ∙ ap (λ l. map f (l ++ b)) is_x
    ∙ ap (λ l. map f (x ++ l)) is_y
    ∙ ap (λ t. map (λ place. (position t place).line) (x ++ y)) same
