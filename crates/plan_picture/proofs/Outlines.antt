-- Two forests with one outline are the same.
use Rattle.std.proofs.Common.{◌≡◌, ℕ, suc, ◌+◌, ◌<◌, Bool, List, [], ◌∷◌, ◌++◌, map, Option, Some, None, inl, inr, refl, sym, ap, ap₂, ◌∙◌, subst, arith}
use Rattle.std.proofs.lemmas.List.{append_assoc, append-nil, map-append}
use Rattle.htn_model.specs.PlanFile.{IsIn}
use Rattle.plan_picture.specs.Rows.{Row, siblings, with_bar, child_rows, root_rows, ArePreorder, none, next}
use Rattle.plan_picture.specs.Outline.{Entry, outline, families, OutlinesAreForests}
use Rattle.plan_picture.proofs.Waiting.{sibling_depth}

-- all of the rows are below equally many lines
abbrev HaveDepth : ℕ → List Row → Type 0
HaveDepth depth rows = (row : Row) → IsIn row rows → row.depth ≡ depth

-- what comes next is below fewer lines
abbrev IsOver : ℕ → List Entry → Type 0
IsOver depth [] = Unit {0}
IsOver depth (entry ∷ entries) = entry.depth < depth

-- the ids of rows
abbrev names : (ℕ → ℕ) → List Row → List ℕ
names id rows = map (λ r. id r.line) rows

sibling_names : (id : ℕ → ℕ) (parent : Option ℕ) (depth : ℕ) (above : List Bool) (lines : List ℕ) → names id (siblings parent depth above lines) ≡ map id lines
sibling_names id parent depth above [] = refl
sibling_names id parent depth above (line ∷ lines) = ap (λ xs. id line ∷ xs) (sibling_names id parent depth above lines)

outline-append : (id : ℕ → ℕ) (xs ys : List Row) → outline id (xs ++ ys) ≡ outline id xs ++ outline id ys
outline-append id xs ys = map-append (λ (r : Row). let e : Entry = record { id = id r.line; depth = r.depth } in e) xs ys

families-append : (id : ℕ → ℕ) (children : ℕ → List ℕ) (xs ys : List Row) → families id children (xs ++ ys) ≡ families id children xs ++ families id children ys
families-append id children xs ys = map-append (λ (r : Row). map id (children r.line)) xs ys

one_entry : (a b c d : ℕ) (xs ys : List Entry) → (record { id = a; depth = b }) ∷ xs ≡ (record { id = c; depth = d }) ∷ ys → (a ≡ c) × (xs ≡ ys)
one_entry a b c d xs ys e =
    let x : Entry = record { id = a; depth = b } in
    let y : Entry = record { id = c; depth = d } in
    let head : x ≡ y = cc in
    (ap (λ (entry : Entry). entry.id) head, cc)

children_depth : (children : ℕ → List ℕ) (row : Row) (depth : ℕ) → row.depth ≡ depth → HaveDepth (suc depth) (child_rows children row)
children_depth children row depth is other i =
    let e = sibling_depth (Some row.line) (row.depth + 1) (with_bar row.above row.is_last) (children row.line) other i in
    omega arith

less_more : (a b : ℕ) → a < b → a < suc b
less_more a b h = omega arith

just_below : (a b : ℕ) → a ≡ b → a < suc b
just_below a b e = omega arith

wider_over : (depth : ℕ) (tail : List Entry) → IsOver depth tail → IsOver (suc depth) tail
wider_over depth [] over = tt
wider_over depth (entry ∷ tail) over = less_more entry.depth depth over

-- rows of some depth come next, or what is over
next_is_over : (children : ℕ → List ℕ) (id : ℕ → ℕ) (depth : ℕ) (rows after : List Row) → ArePreorder children rows after → HaveDepth depth rows
    → (tail : List Entry) → IsOver depth tail → IsOver (suc depth) (outline id after ++ tail)
next_is_over children id depth _ _ none have tail over = wider_over depth tail over
next_is_over children id depth _ _ (next row rows below after p r) have tail over = just_below row.depth depth (have row (inl refl))

not_over : (depth : ℕ) (a b : ℕ) (tail entries : List Entry) → tail ≡ (record { id = a; depth = b }) ∷ entries → b ≡ depth → IsOver depth tail → ⊥
not_over depth a b tail entries e same over =
    let less : b < depth = subst (IsOver depth) e over in
    omega arith

module _ (id other_id : ℕ → ℕ) (children others : ℕ → List ℕ) where
  -- the same rows, the same children of each, and the same to come
  record Same (rows other_rows all other_all : List Row) (tail other_tail : List Entry) : Type 0 where
    are : names id rows ≡ names other_id other_rows
    below : families id children all ≡ families other_id others other_all
    after : tail ≡ other_tail

  same : (depth : ℕ) (rows all other_rows other_all : List Row) → ArePreorder children rows all → ArePreorder others other_rows other_all → HaveDepth depth rows → HaveDepth depth other_rows
      → (tail other_tail : List Entry) → IsOver depth tail → IsOver depth other_tail → outline id all ++ tail ≡ outline other_id other_all ++ other_tail
      → Same rows other_rows all other_all tail other_tail
  same depth _ _ _ _ none none have has tail other_tail over is_over e = record { are = refl; below = refl; after = e }
  same depth _ _ _ _ none (next row rows below after p r) have has tail other_tail over is_over e =
      absurd (not_over depth (other_id row.line) row.depth tail (outline other_id (below ++ after) ++ other_tail) e (has row (inl refl)) over)
  same depth _ _ _ _ (next row rows below after p r) none have has tail other_tail over is_over e =
      absurd (not_over depth (id row.line) row.depth other_tail (outline id (below ++ after) ++ tail) (sym e) (have row (inl refl)) is_over)
  same depth _ _ _ _ (next row rows below after p r) (next row_2 rows_2 below_2 after_2 p_2 r_2) have has tail other_tail over is_over e =
      let head = one_entry (id row.line) row.depth (other_id row_2.line) row_2.depth (outline id (below ++ after) ++ tail) (outline other_id (below_2 ++ after_2) ++ other_tail) e in
      let here = ap (λ es. es ++ tail) (outline-append id below after) ∙ append_assoc (outline id below) (outline id after) tail in
      let there = ap (λ es. es ++ other_tail) (outline-append other_id below_2 after_2) ∙ append_assoc (outline other_id below_2) (outline other_id after_2) other_tail in
      let deep =
      same (suc depth) (child_rows children row) below (child_rows others row_2) below_2 p p_2
      (children_depth children row depth (have row (inl refl))) (children_depth others row_2 depth (has row_2 (inl refl)))
      (outline id after ++ tail) (outline other_id after_2 ++ other_tail)
      (next_is_over children id depth rows after r (λ x i. have x (inr i)) tail over) (next_is_over others other_id depth rows_2 after_2 r_2 (λ x i. has x (inr i)) other_tail is_over)
      (sym here ∙ head.1 ∙ there) in
      let later = same depth rows after rows_2 after_2 r r_2 (λ x i. have x (inr i)) (λ x i. has x (inr i)) tail other_tail over is_over deep.after in
      let kids : map id (children row.line) ≡ map other_id (others row_2.line) =
      sym (sibling_names id (Some row.line) (row.depth + 1) (with_bar row.above row.is_last) (children row.line)) ∙ deep.are
      ∙ sibling_names other_id (Some row_2.line) (row_2.depth + 1) (with_bar row_2.above row_2.is_last) (others row_2.line) in
      record {
        are = ap₂ (λ x xs. x ∷ xs) head.0 later.are;
        below = ap₂ (λ x xs. x ∷ xs) kids
            (families-append id children below after ∙ ap₂ (λ xs ys. xs ++ ys) deep.below later.below ∙ sym (families-append other_id others below_2 after_2));
        after = later.after;
      }

pub outlines_are_forests : OutlinesAreForests
outlines_are_forests id other_id children others roots other_roots rows other_rows p q e =
    let both =
    same id other_id children others 0 (root_rows roots) rows (root_rows other_roots) other_rows p q (sibling_depth None 0 [] roots) (sibling_depth None 0 [] other_roots) [] [] tt tt
    (append-nil (outline id rows) ∙ e ∙ sym (append-nil (outline other_id other_rows))) in
    (sym (sibling_names id None 0 [] roots) ∙ both.are ∙ sibling_names other_id None 0 [] other_roots, both.below)
