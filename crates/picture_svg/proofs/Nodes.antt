-- The nodes of rows in their boxes, one after another.
use Rattle.std.proofs.Common.{◌≡◌, ℕ, zero, suc, ◌+◌, ◌<◌, List, [], ◌∷◌, ◌++◌, length, get_or, drop, Option, slice_get, refl, sym, ap, ap₂, ◌∙◌, arith}
use Rattle.std.proofs.lemmas.List.{append_assoc}
use Rattle.htn_model.specs.PlanFile.{PlanFile}
use Rattle.picture_text.specs.declared.caption.Mark.{Mark}
use Rattle.picture_text.specs.declared.detail.Detail.{Detail}
use Rattle.plan_picture.specs.declared.row.Row.{Row as DeclaredRow}
use Rattle.plan_picture.specs.Seen.{seen_all}
use Rattle.picture_svg.specs.declared.layout.Area.{Area}
use Rattle.picture_svg.specs.Svg.{node_in, nodes}

module _ (mark : Option Mark) (details : Option (List Detail)) (file : PlanFile) where
  no_boxes : (rows : List DeclaredRow) (n : ℕ) → nodes mark details file (drop n (seen_all rows)) [] ≡ []
  no_boxes [] zero = refl
  no_boxes [] (suc n) = refl
  no_boxes (r ∷ rows) zero = refl
  no_boxes (r ∷ rows) (suc n) = no_boxes rows n

  first_node : (rows : List DeclaredRow) (areas : List Area) (i : ℕ) (d : DeclaredRow) → i < length rows
      → nodes mark details file (drop i (seen_all rows)) (drop i areas) ≡ node_in mark details file (get_or rows i d).line (slice_get areas i) ++ nodes mark details file (drop (suc i) (seen_all rows)) (drop (suc i) areas)
  first_node [] areas i d low = absurd (omega arith)
  first_node (r ∷ rows) [] zero d low = sym (no_boxes rows 0)
  first_node (r ∷ rows) (a ∷ areas) zero d low = refl
  first_node (r ∷ rows) [] (suc i) d low = no_boxes rows i ∙ sym (no_boxes rows (suc i))
  first_node (r ∷ rows) (a ∷ areas) (suc i) d low = first_node rows areas i d (omega arith)

  -- one row more is written
  pub nodes_more : (rows : List DeclaredRow) (areas : List Area) (i : ℕ) (r : DeclaredRow) (before after all : List ℕ) → i < length rows → r ≡ get_or rows i r
      → before ++ nodes mark details file (drop i (seen_all rows)) (drop i areas) ≡ all → after ≡ before ++ node_in mark details file r.line (slice_get areas i)
      → after ++ nodes mark details file (drop (i + 1) (seen_all rows)) (drop (i + 1) areas) ≡ all
  nodes_more rows areas i r before after all low is so_far more =
      let next : i + 1 ≡ suc i = omega arith in
      let node = node_in mark details file r.line (slice_get areas i) in
      let rest = nodes mark details file (drop (suc i) (seen_all rows)) (drop (suc i) areas) in
      ap₂ (λ xs k. xs ++ nodes mark details file (drop k (seen_all rows)) (drop k areas)) more next ∙ append_assoc before node rest
      ∙ ap (λ xs. before ++ xs) (sym (first_node rows areas i r low ∙ ap (λ x. node_in mark details file x.line (slice_get areas i) ++ rest) (sym is))) ∙ so_far
