-- The line that links bars.
use Rattle.std.proofs.Common.{◌≡◌, ℕ, suc, ◌-◌, ◌<◌, ◌≤◌, List, [], ◌∷◌, ◌++◌, codes, length, get_or, Result, ap, ◌∙◌, arith}
use Rattle.std.proofs.lemmas.List.{get_or_default}
use Rattle.std.specs.Result.{OnOk}
use Rattle.picture_html.specs.declared.bars.Bar.{Bar}
use Rattle.picture_html.specs.Time.{extent, link}
use Rattle.picture_html.proofs.Chains.{follows, reads}

-- from the first of at least two to the last
first_to_last : (bars : List Bar) (d : Bar) → 2 ≤ length bars
    → codes "<i class=\"link\"" ++ extent (get_or bars 0 d).first (get_or bars (length bars - 1) d).last ≡ link bars
first_to_last [] d many = absurd (omega arith)
first_to_last (bar ∷ []) d many = absurd (omega arith)
first_to_last (bar ∷ next ∷ bars) d many =
    let place : length (bar ∷ next ∷ bars) - 1 ≡ suc (length bars) = omega arith in
    let low : length bars < length (next ∷ bars) = omega arith in
    ap (λ (b : Bar). codes "<i class=\"link\"" ++ extent bar.first b.last) (ap (λ k. get_or (bar ∷ next ∷ bars) k d) place ∙ get_or_default (next ∷ bars) (length bars) d bar low)

-- what is written of it
pub linked : {T E : Type 0} (r : Result T E) (o n m : List ℕ) (bars : List Bar) (d : Bar) → 2 ≤ length bars → n ≡ o ++ codes "<i class=\"link\""
    → OnOk r (m ≡ n ++ extent (get_or bars 0 d).first (get_or bars (length bars - 1) d).last) → OnOk r (m ≡ o ++ link bars)
linked r o n m bars d many begun ended =
    let opening = codes "<i class=\"link\"" in
    let place = extent (get_or bars 0 d).first (get_or bars (length bars - 1) d).last in
    reads r o m (opening ++ place) (link bars) (first_to_last bars d many) (follows r o n m opening place begun ended)
