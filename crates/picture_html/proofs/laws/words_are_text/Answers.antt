use Rattle.std.proofs.Common.{◌≡◌, ℕ, List, [], ◌∷◌, ◌++◌, map, refl, sym, ap, subst}
use Rattle.diagnostics.specs.Shown.{shown}
use Rattle.picture_svg.specs.Escape.{escape, escaped, IsText}
use Rattle.picture_html.specs.Label.{clean}
use Rattle.picture_html.specs.Why.{clean_lines, line_byte}
use Rattle.picture_html.proofs.laws.words_are_text.Goals as goal

both_ways : (words : List ℕ) → clean words ≡ escaped (map shown words)
both_ways [] = refl
both_ways (b ∷ words) = ap (λ xs. escape (shown b) ++ xs) (both_ways words)

line_by_line : (lines : List ℕ) → clean_lines lines ≡ escaped (map line_byte lines)
line_by_line [] = refl
line_by_line (b ∷ lines) = ap (λ xs. escape (line_byte b) ++ xs) (line_by_line lines)

pub returns-clause-words : goal.returns-clause-words
returns-clause-words c = λ words. subst IsText (sym (both_ways words)) (c.words_are_text.ensures (map shown words))

pub returns-clause-lines : goal.returns-clause-lines
returns-clause-lines c = λ lines. subst IsText (sym (line_by_line lines)) (c.words_are_text.ensures (map line_byte lines))
