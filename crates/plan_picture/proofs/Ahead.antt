-- Rows from the top down: that there are some, that they are determined, and what is among them.
use Rattle.std.proofs.Common.{◌≡◌, ℕ, zero, suc, ◌+◌, Bool, List, [], ◌∷◌, ◌++◌, Option, Some, inl, inr, refl, sym, ap, ap₂, subst}
use Rattle.std.proofs.lemmas.List.{append_assoc, map-append}
use Rattle.htn_model.specs.PlanFile.{IsIn}
use Rattle.htn_model.proofs.Ascending.{in_left, in_right, in_split}
use Rattle.plan_picture.specs.Rows.{Row, siblings, with_bar, child_rows, ArePreorder, none, next, rows_within}
use Rattle.plan_picture.specs.Firsts.{lines_of, AreAfter}

-- the lines of siblings
pub sibling_lines : (parent : Option ℕ) (depth : ℕ) (above : List Bool) (lines : List ℕ) → lines_of (siblings parent depth above lines) ≡ lines
sibling_lines parent depth above [] = refl
sibling_lines parent depth above (line ∷ lines) = ap (λ ls. line ∷ ls) (sibling_lines parent depth above lines)

-- what is below a line ends within the given number of lines
abbrev pub Ends : (ℕ → List ℕ) → ℕ → ℕ → Type 0
Ends children zero line = ⊥
Ends children (suc deep) line = (child : ℕ) → IsIn child (children line) → Ends children deep child

-- it does so too where a line has no more children
pub ends_too : (children others : ℕ → List ℕ) → ((line child : ℕ) → IsIn child (others line) → IsIn child (children line)) → (deep line : ℕ) → Ends children deep line → Ends others deep line
ends_too children others fewer zero line ends = ends
ends_too children others fewer (suc deep) line ends = λ child i. ends_too children others fewer deep child (ends child (fewer line child i))

-- the rows of lines below which all ends
abbrev HaveRows : (ℕ → List ℕ) → ℕ → Type 0
HaveRows children deep = (rows : List Row) → ((line : ℕ) → IsIn line (lines_of rows) → Ends children deep line) → ArePreorder children rows (rows_within children deep rows)

one_deeper : (children : ℕ → List ℕ) (deep : ℕ) → HaveRows children deep → HaveRows children (suc deep)
one_deeper children deep have [] ends = none
one_deeper children deep have (row ∷ rows) ends =
    next row rows (rows_within children deep (child_rows children row)) (rows_within children (suc deep) rows)
    (have (child_rows children row) (λ line i. ends row.line (inl refl) line (subst (IsIn line) (sibling_lines (Some row.line) (row.depth + 1) (with_bar row.above row.is_last) (children row.line)) i)))
    (one_deeper children deep have rows (λ line i. ends line (inr i)))

pub have_rows : (children : ℕ → List ℕ) (deep : ℕ) → HaveRows children deep
have_rows children zero [] ends = none
have_rows children zero (row ∷ rows) ends = absurd (ends row.line (inl refl))
have_rows children (suc deep) rows ends = one_deeper children deep (have_rows children deep) rows ends

-- rows after rows
pub after_rows : (children : ℕ → List ℕ) (rows all more whole : List Row) → ArePreorder children rows all → ArePreorder children more whole → ArePreorder children (rows ++ more) (all ++ whole)
after_rows children _ _ more whole none q = q
after_rows children _ _ more whole (next row rows below after p r) q =
    subst (ArePreorder children (row ∷ (rows ++ more))) (ap (λ xs. row ∷ xs) (sym (append_assoc below after whole)))
    (next row (rows ++ more) below (after ++ whole) p (after_rows children rows after more whole r q))

-- the rows are determined
pub same_rows : (children : ℕ → List ℕ) (rows all others : List Row) → ArePreorder children rows all → ArePreorder children rows others → all ≡ others
same_rows children _ _ _ none none = refl
same_rows children _ _ _ (next row rows below after p r) (next _ _ below_too after_too q s) =
    ap₂ (λ xs ys. row ∷ (xs ++ ys)) (same_rows children (child_rows children row) below below_too p q) (same_rows children rows after after_too r s)

-- a row, and what is after it
pub record Split (children : ℕ → List ℕ) (row : Row) (rows all : List Row) : Type 0 where
  pub below : List Row
  pub after : List Row
  pub whole : all ≡ row ∷ (below ++ after)
  pub are_below : ArePreorder children (child_rows children row) below
  pub are_after : ArePreorder children rows after

pub split : (children : ℕ → List ℕ) (row : Row) (rows all : List Row) → ArePreorder children (row ∷ rows) all → Split children row rows all
split children _ _ _ (next row rows below after p r) = record { below = below; after = after; whole = refl; are_below = p; are_after = r }

-- no rows
pub no_rows : (children : ℕ → List ℕ) (all : List Row) → ArePreorder children [] all → all ≡ []
no_rows children _ none = refl

-- ---- what is among them

pub lines_of-append : (xs ys : List Row) → lines_of (xs ++ ys) ≡ lines_of xs ++ lines_of ys
lines_of-append xs ys = map-append (λ (r : Row). r.line) xs ys

-- the rows themselves
pub are_among : (children : ℕ → List ℕ) (rows all : List Row) → ArePreorder children rows all → (line : ℕ) → IsIn line (lines_of rows) → IsIn line (lines_of all)
are_among children _ _ none line i = i
are_among children _ _ (next row rows below after p r) line (inl same) = inl same
are_among children _ _ (next row rows below after p r) line (inr i) =
    inr (subst (IsIn line) (sym (lines_of-append below after)) (in_right line (lines_of below) (lines_of after) (are_among children rows after r line i)))

both_after : (children : ℕ → List ℕ) (xs ys : List ℕ) → AreAfter children xs → AreAfter children ys → AreAfter children (xs ++ ys)
both_after children [] ys p q = q
both_after children (x ∷ xs) ys p q = (λ child i. in_left child xs ys (p.0 child i), both_after children xs ys p.1 q)

-- after each row come its children
pub children_after : (children : ℕ → List ℕ) (rows all : List Row) → ArePreorder children rows all → AreAfter children (lines_of all)
children_after children _ _ none = tt
children_after children _ _ (next row rows below after p r) =
    let apart = lines_of-append below after in (
      (λ child i. subst (IsIn child) (sym apart) (in_left child (lines_of below) (lines_of after)
          (are_among children (child_rows children row) below p child
          (subst (IsIn child) (sym (sibling_lines (Some row.line) (row.depth + 1) (with_bar row.above row.is_last) (children row.line))) i)))),
      subst (AreAfter children) (sym apart) (both_after children (lines_of below) (lines_of after) (children_after children (child_rows children row) below p) (children_after children rows after r)),
    )

-- what is so of the rows' lines, and of the children of each of which it is so, is so of all
pub all_so : (P : ℕ → Type 0) (children : ℕ → List ℕ) → ((line child : ℕ) → P line → IsIn child (children line) → P child)
    → (rows all : List Row) → ArePreorder children rows all → ((line : ℕ) → IsIn line (lines_of rows) → P line) → (line : ℕ) → IsIn line (lines_of all) → P line
all_so P children closed _ _ none so line i = so line i
all_so P children closed _ _ (next row rows below after p r) so line (inl same) = so line (inl same)
all_so P children closed _ _ (next row rows below after p r) so line (inr i) =
    elim (in_split line (lines_of below) (lines_of after) (subst (IsIn line) (lines_of-append below after) i)) [
      | inl b ↦ all_so P children closed (child_rows children row) below p
          (λ child j. closed row.line child (so row.line (inl refl))
          (subst (IsIn child) (sibling_lines (Some row.line) (row.depth + 1) (with_bar row.above row.is_last) (children row.line)) j)) line b
      | inr a ↦ all_so P children closed rows after r (λ l j. so l (inr j)) line a
    ]
