-- Words among markup are no markup.
use Rattle.std.proofs.Common.{◌≡◌, ℕ, Bool, true, false, ◌==◌, cond, List, [], ◌∷◌, ◌++◌, refl}
use Rattle.picture_svg.specs.Escape.{less, greater, ampersand, quote, entity, escaped, IsText, none, byte, name}

one_byte : (p q r s : Bool) (b : ℕ) (rest : List ℕ) → (b == 60) ≡ p → (b == 62) ≡ q → (b == 38) ≡ r → (b == 34) ≡ s → IsText rest
    → IsText (cond p (entity less) (cond q (entity greater) (cond r (entity ampersand) (cond s (entity quote) (b ∷ [])))) ++ rest)
one_byte true q r s b rest e f g h text = name less rest text
one_byte false true r s b rest e f g h text = name greater rest text
one_byte false false true s b rest e f g h text = name ampersand rest text
one_byte false false false true b rest e f g h text = name quote rest text
one_byte false false false false b rest e f g h text = byte b rest (rw (e, f, g, h) refl) text

pub words_are_text : (words : List ℕ) → IsText (escaped words)
words_are_text [] = none
words_are_text (b ∷ words) = one_byte (b == 60) (b == 62) (b == 38) (b == 34) b (escaped words) refl refl refl refl (words_are_text words)
