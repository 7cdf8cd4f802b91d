-- In an outline what folds under a row is what is below its line.
use Rattle.std.proofs.Common.{◌≡◌, ◌≢◌, ℕ, suc, ◌+◌, ◌-◌, ◌<◌, ◌≤◌, ◌&&◌, Bool, true, false, nat_lt, codes, List, [], ◌∷◌, ◌++◌, Some, None, ◌⊎◌, inl, inr, refl, sym, ap, ap₂, subst, ◌∙◌, arith}
use Rattle.std.proofs.lemmas.Bool.{ltb-true, ltb-false, lt-ltb, le-ltb}
use Rattle.std.proofs.lemmas.List.{append_assoc, append-nil}
use Rattle.htn_model.specs.PlanFile.{IsIn}
use Rattle.plan_picture.specs.Rows.{Row, siblings, with_bar, child_rows, root_rows, ArePreorder, none, next}
use Rattle.picture_html.specs.Bars.{max_levels}
use Rattle.picture_html.specs.Row.{level}
use Rattle.picture_html.specs.Outline.{folds, ends, step, outline}
use Rattle.picture_html.specs.Folds.{AreFolded, no_rows, fold, flat, OutlinesAreFolded}
use Rattle.picture_html.proofs.Deeper.{child_depth, sibling_depth, no_more}

-- ## The outline of rows before others

-- how many lines the first row is below, or what comes after all of them
abbrev next_or : List Row → ℕ → ℕ
next_or [] n = n
next_or (row ∷ rows) n = row.depth

-- the outline of rows before one that is below some lines
abbrev outline_to : (Bool → Row → List ℕ) → List Row → ℕ → List ℕ
outline_to text [] n = []
outline_to text (row ∷ rows) n = step text row (next_or rows n) ++ outline_to text rows n

whole_outline : (text : Bool → Row → List ℕ) (rows : List Row) → outline text rows ≡ outline_to text rows 0
whole_outline text [] = refl
whole_outline text (row ∷ []) = refl
whole_outline text (row ∷ other ∷ rows) = ap (λ xs. step text row other.depth ++ xs) (whole_outline text (other ∷ rows))

next_of_both : (xs ys : List Row) (n : ℕ) → next_or (xs ++ ys) n ≡ next_or xs (next_or ys n)
next_of_both [] ys n = refl
next_of_both (x ∷ xs) ys n = refl

both_outlines : (text : Bool → Row → List ℕ) (xs ys : List Row) (n : ℕ) → outline_to text (xs ++ ys) n ≡ outline_to text xs (next_or ys n) ++ outline_to text ys n
both_outlines text [] ys n = refl
both_outlines text (x ∷ xs) ys n =
    ap₂ (λ k l. step text x k ++ l) (next_of_both xs ys n) (both_outlines text xs ys n) ∙ sym (append_assoc (step text x (next_or xs (next_or ys n))) (outline_to text xs (next_or ys n)) (outline_to text ys n))

-- ## Folds that end

no_ends : (a b : ℕ) → a ≤ b → ends (a - b) ≡ []
no_ends a b h = ap ends (let e : a - b ≡ 0 = omega arith in e)

level_same : (a b : ℕ) → b ≡ a → level a ≤ level b
level_same a b e = no_more (level a) (level b) (ap level (sym e))

level_up : (d e : ℕ) → e ≡ suc d → level d ≤ level e
level_up d e same = omega arith

-- the ends after rows, if there are any
abbrev rest : List Row → ℕ → List ℕ
rest [] k = []
rest (row ∷ rows) k = ends k

-- the end of a row's own fold
abbrev close : Bool → List ℕ
close true = codes "</details>\n"
close false = []

one_end : (f : Bool) (d m : ℕ) → nat_lt d max_levels ≡ f → m ≤ d → ends (level (suc d) - level m) ≡ close f ++ ends (level d - level m)
one_end true d m e h = ap ends (let low = ltb-true d max_levels e in let n : level (suc d) - level m ≡ suc (level d - level m) = omega arith in n)
one_end false d m e h = ap ends (let high = ltb-false d max_levels e in let n : level (suc d) - level m ≡ level d - level m = omega arith in n)

module _ (children : ℕ → List ℕ) (text : Bool → Row → List ℕ) where
  -- rows with all that is below them, before a row that is below some lines
  record Folded (d n : ℕ) (rows all : List Row) : Type 0 where
    body : List ℕ
    is : AreFolded children text rows body
    whole : outline_to text all n ≡ body ++ rest rows (level d - level n)

  next_low : (d n : ℕ) (rows all : List Row) → ArePreorder children rows all → ((row : Row) → IsIn row rows → row.depth ≡ d) → n ≤ d → next_or all n ≤ d
  next_low d n _ _ none have low = low
  next_low d n _ _ (next row rows below after p r) have low = no_more row.depth d (have row (inl refl))

  no_body : (body : List ℕ) → AreFolded children text [] body → body ≡ []
  no_body _ no_rows = refl

  -- the ends before the next row at this depth, or after the last
  turn : (d n : ℕ) (rows after : List Row) (body : List ℕ) → ArePreorder children rows after → AreFolded children text rows body → ((row : Row) → IsIn row rows → row.depth ≡ d)
      → ends (level d - level (next_or after n)) ++ (body ++ rest rows (level d - level n)) ≡ body ++ ends (level d - level n)
  turn d n _ _ body none is have =
      let empty = no_body body is in
      ap (λ b. ends (level d - level n) ++ (b ++ [])) empty ∙ append-nil (ends (level d - level n)) ∙ sym (ap (λ b. b ++ ends (level d - level n)) empty)
  turn d n _ _ body (next row rows below after p r) is have =
      ap (λ xs. xs ++ (body ++ ends (level d - level n))) (no_ends (level d) (level row.depth) (level_same d row.depth (have row (inl refl))))

  -- a row before what is below it
  record Front (row : Row) (below : List Row) (m : ℕ) (under : List ℕ) : Type 0 where
    shows : Bool
    if_shown : shows ≡ true → (children row.line ≢ []) × (row.depth < max_levels)
    if_not : shows ≡ false → (children row.line ≡ []) ⊎ (max_levels ≤ row.depth)
    front : step text row (next_or below m) ++ outline_to text below m ≡ text shows row ++ (under ++ (close shows ++ ends (level row.depth - level m)))

  no_kids : (row : Row) → child_rows children row ≡ [] → children row.line ≡ []
  no_kids row e = by (children row.line) refl e
    where
      by : (lines : List ℕ) → children row.line ≡ lines → siblings (Some row.line) (row.depth + 1) (with_bar row.above row.is_last) lines ≡ [] → lines ≡ []
      by [] s h = refl
      by (line ∷ lines) s h = absurd cc

  some_kids : (row kid : Row) (kids : List Row) → child_rows children row ≡ kid ∷ kids → children row.line ≢ []
  some_kids row kid kids e none_there =
      let no : [] ≡ kid ∷ kids = sym (ap (siblings (Some row.line) (row.depth + 1) (with_bar row.above row.is_last)) none_there) ∙ e in
      absurd cc

  shown_or_not : (row kid : Row) (kids : List Row) (f : Bool) → child_rows children row ≡ kid ∷ kids → nat_lt row.depth max_levels ≡ f
      → (f ≡ true → (children row.line ≢ []) × (row.depth < max_levels)) × (f ≡ false → (children row.line ≡ []) ⊎ (max_levels ≤ row.depth))
  shown_or_not row kid kids true e t = ((λ h. (some_kids row kid kids e, ltb-true row.depth max_levels t)), λ h. absurd cc)
  shown_or_not row kid kids false e t = ((λ h. absurd cc), λ h. inr (ltb-false row.depth max_levels t))

  front_of : (row : Row) (kids below : List Row) (m : ℕ) (under : List ℕ) → child_rows children row ≡ kids → ArePreorder children kids below → m ≤ row.depth
      → AreFolded children text kids under → outline_to text below m ≡ under ++ rest kids (level (suc row.depth) - level m) → Front row below m under
  front_of row _ _ m under e none low is whole =
      let empty = no_body under is in
      let test : folds row.depth m ≡ false = ap (λ b. b && nat_lt row.depth max_levels) (le-ltb row.depth m low) in
      record {
        shows = false;
        if_shown = λ h. absurd cc;
        if_not = λ h. inl (no_kids row e);
        front = append-nil (step text row m) ∙ ap (λ f. text f row ++ ends (level row.depth - level m)) test
            ∙ sym (ap (λ u. text false row ++ (u ++ ends (level row.depth - level m))) empty);
      }
  front_of row _ _ m under e (next kid kids below after p r) low is whole =
      let f = nat_lt row.depth max_levels in
      let deep : kid.depth ≡ suc row.depth = (let h : kid.depth ≡ row.depth + 1 = child_depth children row kid (subst (IsIn kid) (sym e) (inl refl)) in omega arith) in
      let test = lt-ltb row.depth kid.depth (omega arith) in
      let both = shown_or_not row kid kids f e refl in
      let begins : step text row kid.depth ≡ text f row =
      ap₂ (λ b xs. text (b && f) row ++ xs) test (no_ends (level row.depth) (level kid.depth) (level_up row.depth kid.depth deep)) ∙ append-nil (text f row) in
      record {
        shows = f;
        if_shown = both.0;
        if_not = both.1;
        front = ap₂ (λ xs ys. xs ++ ys) begins whole ∙ ap (λ xs. text f row ++ (under ++ xs)) (one_end f row.depth m refl low);
      }

  -- a row is folded with what is below it
  joined : (row : Row) (rows : List Row) (below after : List ℕ) (f : Bool) → (f ≡ true → (children row.line ≢ []) × (row.depth < max_levels)) → (f ≡ false → (children row.line ≡ []) ⊎ (max_levels ≤ row.depth))
      → AreFolded children text (child_rows children row) below → AreFolded children text rows after → AreFolded children text (row ∷ rows) (text f row ++ (below ++ (close f ++ after)))
  joined row rows below after true shown not_shown is are = fold row rows below after (shown refl).0 (shown refl).1 is are
  joined row rows below after false shown not_shown is are = flat row rows below after (not_shown refl) is are

  four : (a b c d e : List ℕ) → (a ++ (b ++ (c ++ d))) ++ e ≡ a ++ (b ++ (c ++ (d ++ e)))
  four a b c d e = simp append_assoc

  folded : (d n : ℕ) (rows all : List Row) → ArePreorder children rows all → ((row : Row) → IsIn row rows → row.depth ≡ d) → n ≤ d → Folded d n rows all
  folded d n _ _ none have low = record { body = []; is = no_rows; whole = refl }
  folded d n _ _ (next row rows below after p r) have low =
      let here : row.depth ≡ d = have row (inl refl) in
      let m = next_or after n in
      let less : m ≤ d = next_low d n rows after r (λ other i. have other (inr i)) low in
      let b = folded (suc d) m (child_rows children row) below p (λ child i. (let e : child.depth ≡ row.depth + 1 = child_depth children row child i in omega arith)) (omega arith) in
      let a = folded d n rows after r (λ other i. have other (inr i)) low in
      let top =
      front_of row (child_rows children row) below m b.body refl p (omega arith) b.is (b.whole ∙ ap (λ k. b.body ++ rest (child_rows children row) (level (suc k) - level m)) (sym here)) in
      let tail = ends (level row.depth - level m) in
      let last : tail ++ (a.body ++ rest rows (level d - level n)) ≡ a.body ++ ends (level d - level n) =
      ap (λ k. ends (level k - level m) ++ (a.body ++ rest rows (level d - level n))) here ∙ turn d n rows after a.body r a.is (λ other i. have other (inr i)) in
      record {
        body = text top.shows row ++ (b.body ++ (close top.shows ++ a.body));
        is = joined row rows b.body a.body top.shows top.if_shown top.if_not b.is a.is;
        whole = ap₂ (λ k xs. step text row k ++ xs) (next_of_both below after n) (both_outlines text below after n)
            ∙ sym (append_assoc (step text row (next_or below m)) (outline_to text below m) (outline_to text after n))
            ∙ ap₂ (λ xs ys. xs ++ ys) top.front a.whole
            ∙ four (text top.shows row) b.body (close top.shows) tail (a.body ++ rest rows (level d - level n))
            ∙ ap (λ xs. text top.shows row ++ (b.body ++ (close top.shows ++ xs))) last
            ∙ sym (four (text top.shows row) b.body (close top.shows) a.body (ends (level d - level n)));
      }

pub outlines_are_folded : OutlinesAreFolded
outlines_are_folded children text roots rows p =
    let all = folded children text 0 0 (root_rows roots) rows p (sibling_depth None 0 [] roots) (omega arith) in
    subst (AreFolded children text (root_rows roots)) (sym (whole_outline text rows ∙ all.whole ∙ ap (λ k. all.body ++ rest (root_rows roots) k) (let e : level 0 - level 0 ≡ 0 = omega arith in e) ∙ no_rest (root_rows roots) all.body)) all.is
  where
    no_rest : (some : List Row) (body : List ℕ) → body ++ rest some 0 ≡ body
    no_rest [] body = append-nil body
    no_rest (row ∷ some) body = append-nil body
