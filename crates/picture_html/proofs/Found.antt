-- The bars that are found are those of the picture.
use Rattle.std.proofs.Common.{◌≡◌, ℕ, zero, suc, ◌+◌, ◌-◌, ◌<◌, ◌≤◌, List, [], ◌∷◌, length, get_or, set, map, drop, Global, inl, inr, refl, sym, ap, ◌∙◌, subst, arith}
use Rattle.std.specs.Prelude.{Vec}
use Rattle.std.proofs.lemmas.List.{get_or-set_same, get_or-set_other}
use Rattle.htn_model.specs.PlanFile.{IsIn, IsWithoutRepeats}
use Rattle.plan_picture.specs.declared.row.Row.{Row as DeclaredRow}
use Rattle.plan_picture.specs.Firsts.{lines_of}
use Rattle.plan_picture.specs.Rows.{Row, child_rows, ArePreorder}
use Rattle.plan_picture.specs.Seen.{seen, seen_all}
use Rattle.picture_html.specs.declared.bars.Bar.{Bar}
use Rattle.picture_html.specs.Bars.{AreBarsOf, IsActionBelow}
use Rattle.picture_html.specs.Outline.{bars_at}
use Rattle.picture_html.specs.Runs.{deeper, positions, AreFound, AreFoundFirst, AreAllFound}
use Rattle.picture_html.proofs.Covering.{same_runs}
use Rattle.picture_html.proofs.Deeper.{OwnRows, line_below, below_line, of_positions, to_positions}
use Rattle.picture_html.proofs.Positions.{own_row}

row_bars : (actions : ℕ) (children : ℕ → List ℕ) (row : Row) (rows : List Row) (bars : List Bar) → AreFound actions row rows bars
    → ArePreorder children (child_rows children row) (deeper row.depth rows) → AreBarsOf actions children row bars
row_bars actions children row rows bars found p =
    let below = deeper row.depth rows in
    record {
      drawn = λ h.
          same_runs (λ n. IsIn n (positions actions (row ∷ below))) (IsActionBelow actions children row.line)
          (λ n i. (let both = of_positions actions (row ∷ below) n i in (both.0, line_below children row below p n both.1)))
          (λ n q. to_positions actions (row ∷ below) n q.0 (below_line children row below p n q.1)) bars (found.drawn h);
      left_out = found.left_out;
    }

pub all_bars : (actions : ℕ) (children : ℕ → List ℕ) (f : ℕ → List Bar) (rows : List Row) → AreAllFound actions rows f → OwnRows children rows
    → (row : Row) → IsIn row rows → AreBarsOf actions children row (f row.line)
all_bars actions children f [] found own row i = absurd i
all_bars actions children f (top ∷ rows) found own row (inl same) =
    subst (λ r. AreBarsOf actions children r (f r.line)) (sym same) (row_bars actions children top rows (f top.line) found.0 own.0)
all_bars actions children f (top ∷ rows) found own row (inr i) = all_bars actions children f rows found.1 own.1 row i

-- ## The bars of one row more

same_found : (actions : ℕ) (f g : ℕ → List Bar) (rows : List Row) → ((line : ℕ) → IsIn line (lines_of rows) → f line ≡ g line) → AreAllFound actions rows f → AreAllFound actions rows g
same_found actions f g [] same all = tt
same_found actions f g (row ∷ rows) same all =
    (subst (AreFound actions row rows) (same row.line (inl refl)) all.0, same_found actions f g rows (λ line i. same line (inr i)) all.1)

once_drop : (rows : List Row) (i : ℕ) → IsWithoutRepeats (lines_of rows) → IsWithoutRepeats (lines_of (drop i rows))
once_drop rows zero once = once
once_drop [] (suc i) once = tt
once_drop (r ∷ rows) (suc i) once = once_drop rows i once.1

-- vectors as lists
abbrev seen_bars : List (Vec Bar Global) → List (List Bar)
seen_bars bars = map (λ v. v.items) bars

set_lists : (bars : List (Vec Bar Global)) (i : ℕ) (found : Vec Bar Global) → seen_bars (set bars i found) ≡ set (seen_bars bars) i found.items
set_lists [] i found = refl
set_lists (b ∷ bars) zero found = refl
set_lists (b ∷ bars) (suc i) found = ap (λ bs. b.items ∷ bs) (set_lists bars i found)

many_lists : (bars : List (Vec Bar Global)) → length (seen_bars bars) ≡ length bars
many_lists [] = refl
many_lists (b ∷ bars) = ap suc (many_lists bars)

pub found_more : (actions : ℕ) (rows : List DeclaredRow) (left : ℕ) (r : DeclaredRow) (bars : List (Vec Bar Global)) (found : Vec Bar Global) → 0 < left → left ≤ length rows
    → r ≡ get_or rows (left - 1) r → r.line < length bars → IsWithoutRepeats (lines_of (seen_all rows)) → AreFoundFirst actions (drop (left - 1) (seen_all rows)) found.items
    → AreAllFound actions (drop left (seen_all rows)) (bars_at bars) → AreAllFound actions (drop (left - 1) (seen_all rows)) (bars_at (set bars r.line found))
found_more actions rows left r bars found some within is low once here all =
    let next : left - 1 + 1 ≡ left = omega arith in
    let rest = drop left (seen_all rows) in
    let more : drop (left - 1) (seen_all rows) ≡ seen r ∷ rest = own_row rows (left - 1) r (omega arith) is ∙ ap (λ k. seen r ∷ drop k (seen_all rows)) next in
    let own : AreFound actions (seen r) rest found.items = subst (λ rs. AreFoundFirst actions rs found.items) more here in
    let all_once : IsWithoutRepeats (lines_of (seen r ∷ rest)) = subst (λ rs. IsWithoutRepeats (lines_of rs)) more (once_drop (seen_all rows) (left - 1) once) in
    let many = many_lists bars in
    let slot : r.line < length (seen_bars bars) = omega arith in
    let lists = set_lists bars r.line found in
    let mine : found.items ≡ bars_at (set bars r.line found) r.line =
    sym (ap (λ ls. get_or ls r.line []) lists ∙ get_or-set_same (seen_bars bars) r.line found.items [] slot) in
    let stays : (line : ℕ) → IsIn line (lines_of rest) → bars_at bars line ≡ bars_at (set bars r.line found) line =
    λ line i. sym (ap (λ ls. get_or ls line []) lists ∙ get_or-set_other (seen_bars bars) r.line line found.items [] (λ same. all_once.0 (subst (λ l. IsIn l (lines_of rest)) same i))) in
    subst (λ rs. AreAllFound actions rs (bars_at (set bars r.line found))) (sym more)
    (subst (AreFound actions (seen r) rest) mine own, same_found actions (bars_at bars) (bars_at (set bars r.line found)) rest stays all)
