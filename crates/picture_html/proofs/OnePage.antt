-- A picture has one page.
use Rattle.std.proofs.Common.{◌≡◌, ℕ, ◌-◌, ◌<◌, ◌≤◌, Bool, true, false, List, [], ◌∷◌, ◌++◌, length, Option, ◌⊎◌, inl, inr, refl, sym, ap₂, ◌∙◌}
use Rattle.std.proofs.lemmas.Bool.{cases_lt}
use Rattle.htn_model.specs.PlanFile.{IsIn}
use Rattle.plan_picture.specs.declared.picture.Picture.{Picture}
use Rattle.plan_picture.specs.Picture.{IsPictureOf}
use Rattle.plan_picture.specs.Rows.{Row}
use Rattle.picture_text.specs.declared.caption.Caption.{Caption}
use Rattle.picture_text.specs.declared.detail.Detail.{Detail}
use Rattle.picture_text.specs.Details.{detail_at}
use Rattle.picture_text.specs.Lines.{line_at}
use Rattle.picture_svg.specs.Grid.{rows_of, actions_of, children_of}
use Rattle.picture_svg.specs.OneLayout.{LayoutsAreOne}
use Rattle.picture_html.specs.declared.bars.Bar.{Bar}
use Rattle.picture_html.specs.Bars.{AreBarsOf, IsActionBelow, has_bars}
use Rattle.picture_html.specs.OnePage.{PagesAreOne}
use Rattle.picture_html.specs.Outline.{next_depth, folds, ends, outline, line_row}
use Rattle.picture_html.specs.Page.{IsTreeOf, head, above, below, columns, ruler, key, details_of, max_drawn}
use Rattle.picture_html.specs.Row.{level, row_text}
use Rattle.picture_html.specs.Tip.{are_tested}
use Rattle.picture_html.proofs.OneRuns.{one_runs}

-- the bars of a row are determined
one_bars : (actions : ℕ) (children : ℕ → List ℕ) (row : Row) (ps qs : List Bar) (t : Bool) → has_bars actions row ≡ t → AreBarsOf actions children row ps → AreBarsOf actions children row qs → ps ≡ qs
one_bars actions children row ps qs true e one two = one_runs (IsActionBelow actions children row.line) ps qs (one.drawn e) (two.drawn e)
one_bars actions children row ps qs false e one two = one.left_out e ∙ sym (two.left_out e)

module _ (caption : Caption) (details : Option (List Detail)) (picture : Picture) where
  same_outline : (f g : ℕ → List Bar) (rows : List Row) → ((row : Row) → IsIn row rows → f row.line ≡ g row.line)
      → outline (line_row caption.mark picture.file.now details f) rows ≡ outline (line_row caption.mark picture.file.now details g) rows
  same_outline f g [] same = refl
  same_outline f g (row ∷ rows) same =
      let file = picture.file.now in
      let now = folds row.depth (next_depth rows) in
      let closing = ends (level row.depth - level (next_depth rows)) in
      let detail = detail_at details (length file.actions) row.line in
      ap₂ (λ bars xs. (row_text caption.mark now row (line_at file row.line) bars detail ++ closing) ++ xs) (same row (inl refl)) (same_outline f g rows (λ other i. same other (inr i)))

  one_tree : LayoutsAreOne → IsPictureOf picture.file.now picture → (a b : List ℕ) → IsTreeOf caption details picture a → IsTreeOf caption details picture b → a ≡ b
  one_tree layouts is a b one two = by (cases_lt max_drawn (length picture.rows.items))
    where
      by : (max_drawn < length picture.rows.items) ⊎ (length picture.rows.items ≤ max_drawn) → a ≡ b
      by (inl many) = one.left_out many ∙ sym (two.left_out many)
      by (inr few) =
          let p = one.drawn few in
          let q = two.drawn few in
          p.bytes_are ∙ (layouts caption details picture p.layout q.layout is p.is_layout q.is_layout).1 ∙ sym q.bytes_are

pub pages_are_one : LayoutsAreOne → PagesAreOne
pages_are_one layouts caption remarks picture a b is one two =
    let file = picture.file.now in
    let rows = rows_of picture in
    let details = details_of remarks in
    let end = key (are_tested details) in
    let same : (row : Row) → IsIn row rows → one.bars row.line ≡ two.bars row.line =
    λ row i. one_bars (actions_of picture) (children_of picture) row (one.bars row.line) (two.bars row.line) (has_bars (actions_of picture) row) refl (one.are_bars row i) (two.are_bars row i) in
    let outlines = same_outline caption details picture one.bars two.bars rows same in
    let trees = one_tree caption details picture layouts is one.svg two.svg one.is_tree two.is_tree in
    one.bytes_are
    ∙ ap₂ (λ o t. head caption details ++ (above caption remarks file ++ ((columns (actions_of picture) ++ (ruler (actions_of picture) ++ (o ++ end))) ++ below remarks file t))) outlines trees
    ∙ sym two.bytes_are
