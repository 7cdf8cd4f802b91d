-- One line more has its middle.
use Rattle.std.proofs.Common.{◌≡◌, ℕ, zero, suc, ◌+◌, ◌-◌, ◌/◌, ◌<◌, ◌≤◌, List, [], ◌∷◌, length, get_or, set, drop, inl, inr, refl, sym, ap₂, ◌∙◌, subst, arith}
use Rattle.std.proofs.lemmas.List.{get_or-set_same, get_or-set_other}
use Rattle.htn_model.specs.PlanFile.{IsIn, IsWithoutRepeats}
use Rattle.plan_text.proofs.Adding.{get_in}
use Rattle.plan_picture.specs.declared.row.Row.{Row as DeclaredRow}
use Rattle.plan_picture.specs.Rows.{Row}
use Rattle.plan_picture.specs.Firsts.{AreAfter, lines_of}
use Rattle.plan_picture.specs.Seen.{seen, seen_all}
use Rattle.picture_svg.specs.Grid.{own_places, middle_of, AreCentred}
use Rattle.picture_svg.proofs.Rows.{row_more}

-- the middle of a line is that of its children
pub middle_same : (f g : ℕ → ℕ) (place : ℕ) (lines : List ℕ) → ((line : ℕ) → IsIn line lines → f line ≡ g line) → middle_of f place lines ≡ middle_of g place lines
middle_same f g place [] same = refl
middle_same f g place (first ∷ others) same =
    ap₂ (λ m n. (m + n) / 2) (same first (inl refl)) (same (get_or (first ∷ others) (length others) 0) (get_in (first ∷ others) (length others) 0 (omega arith)))

-- rows are centred as long as their middles stay
pub centred_same : (children : ℕ → List ℕ) (f g : ℕ → ℕ) (place : ℕ) (rows : List Row) → AreAfter children (lines_of rows) → ((line : ℕ) → IsIn line (lines_of rows) → f line ≡ g line)
    → AreCentred children f place rows → AreCentred children g place rows
centred_same children f g place [] after same are = tt
centred_same children f g place (row ∷ rows) after same are = (
  sym (same row.line (inl refl)) ∙ are.0 ∙ middle_same f g place (children row.line) (λ line i. same line (inr (after.0 line i))),
  centred_same children f g (place + own_places (children row.line)) rows after.1 (λ line i. same line (inr i)) are.1,
)

-- what holds of all lines holds of those from some place on
after_drop : (children : ℕ → List ℕ) (rows : List Row) (i : ℕ) → AreAfter children (lines_of rows) → AreAfter children (lines_of (drop i rows))
after_drop children rows zero after = after
after_drop children [] (suc i) after = tt
after_drop children (r ∷ rows) (suc i) after = after_drop children rows i after.1

once_drop : (rows : List Row) (i : ℕ) → IsWithoutRepeats (lines_of rows) → IsWithoutRepeats (lines_of (drop i rows))
once_drop rows zero once = once
once_drop [] (suc i) once = tt
once_drop (r ∷ rows) (suc i) once = once_drop rows i once.1

pub centred_more : (children : ℕ → List ℕ) (rows : List DeclaredRow) (left : ℕ) (d : DeclaredRow) (middles : List ℕ) (place own middle : ℕ) → 0 < left → left ≤ length rows
    → AreAfter children (lines_of (seen_all rows)) → IsWithoutRepeats (lines_of (seen_all rows)) → (get_or rows (left - 1) d).line < length middles → own ≤ place
    → own ≡ own_places (children (get_or rows (left - 1) d).line) → middle ≡ middle_of (λ line. get_or middles line 0) (place - own) (children (get_or rows (left - 1) d).line)
    → AreCentred children (λ line. get_or middles line 0) place (drop left (seen_all rows))
    → AreCentred children (λ line. get_or (set middles (get_or rows (left - 1) d).line middle) line 0) (place - own) (drop (left - 1) (seen_all rows))
centred_more children rows left d middles place own middle some within after once low less here is are =
    let row = seen (get_or rows (left - 1) d) in
    let rest = drop left (seen_all rows) in
    let more = row_more rows left d some within in
    let f = λ (line : ℕ). get_or middles line 0 in
    let g = λ (line : ℕ). get_or (set middles row.line middle) line 0 in
    let all_after : AreAfter children (lines_of (row ∷ rest)) = subst (λ rs. AreAfter children (lines_of rs)) more (after_drop children (seen_all rows) (left - 1) after) in
    let all_once : IsWithoutRepeats (lines_of (row ∷ rest)) = subst (λ rs. IsWithoutRepeats (lines_of rs)) more (once_drop (seen_all rows) (left - 1) once) in
    let stays : (line : ℕ) → IsIn line (lines_of rest) → f line ≡ g line =
    λ line i. sym (get_or-set_other middles row.line line middle 0 (λ same. all_once.0 (subst (λ l. IsIn l (lines_of rest)) same i))) in
    let own_middle : g row.line ≡ middle_of g (place - own) (children row.line) =
    get_or-set_same middles row.line middle 0 low ∙ is ∙ middle_same f g (place - own) (children row.line) (λ line i. stays line (all_after.0 line i)) in
    let next : place ≡ place - own + own_places (children row.line) = omega arith in
    let below = subst (λ n. AreCentred children g n rest) next (centred_same children f g place rest all_after.1 stays are) in
    subst (AreCentred children g (place - own)) (sym more) (own_middle, below)
