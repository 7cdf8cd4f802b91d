-- A forest has rows, as it is listed and as it is drawn, and each line is among them.
use Rattle.std.proofs.Common.{◌≡◌, ℕ, suc, ◌+◌, ◌<◌, List, [], ◌∷◌, length, get_or, Vec, Option, None, inl, inr, sym, ap, ◌∙◌, subst, arith}
use Rattle.std.proofs.lemmas.List.{length-map}
use Rattle.htn_model.specs.PlanFile.{PlanFile, IsIn, defined_ids}
use Rattle.plan_text.specs.Forest.{Forest, IsForestOf, lists_of}
use Rattle.plan_text.specs.Reached.{children_at, IsReachedFrom, a_root, a_child}
use Rattle.plan_text.proofs.Listed.{as_many_lists}
use Rattle.plan_picture.specs.Below.{IsFirstAction}
use Rattle.plan_picture.specs.Picture.{IsDrawing}
use Rattle.plan_picture.specs.Order.{AreDrawn, AreAllDrawn}
use Rattle.plan_picture.specs.Rows.{Row, root_rows, ArePreorder, rows_within}
use Rattle.plan_picture.specs.Firsts.{lines_of, AreAfter}
use Rattle.plan_picture.proofs.Ahead.{sibling_lines, ends_too, have_rows, are_among, children_after, all_so, Ends}
use Rattle.plan_picture.proofs.Ending.{roots_within, children_within, all_reached, line_ends}
use Rattle.plan_picture.proofs.Ordered.{drawn_is_listed, children_listed, as_many}

-- a child of one of the lines is one of the lines
pub after_in : (children : ℕ → List ℕ) (lines : List ℕ) → AreAfter children lines → (parent child : ℕ) → IsIn parent lines → IsIn child (children parent) → IsIn child lines
after_in children [] after parent child i j = absurd i
after_in children (line ∷ lines) after parent child (inl same) j = inr (after.0 child (subst (λ l. IsIn child (children l)) same j))
after_in children (line ∷ lines) after parent child (inr i) j = inr (after_in children lines after.1 parent child i j)

module _ (file : PlanFile) (listed : Forest) (is : IsForestOf file listed) where
  -- how many action lines there are
  abbrev actions : ℕ
  actions = length file.actions

  -- the children as they are listed
  abbrev below : ℕ → List ℕ
  below = children_at actions listed.children

  root_in : (roots : List ℕ) (line : ℕ) → IsIn line (lines_of (root_rows roots)) → IsIn line roots
  root_in roots line i = subst (IsIn line) (sibling_lines None 0 [] roots) i

  -- the rows as the lines are listed
  pub listed_rows : (deep : ℕ) → suc (length file.decompositions) ≡ deep → ArePreorder below (root_rows listed.roots) (rows_within below deep (root_rows listed.roots))
  listed_rows deep e =
      have_rows below deep (root_rows listed.roots)
      (λ line i. subst (λ d. Ends below d line) e (line_ends file listed is line (roots_within file listed is line (root_in listed.roots line i))))

  -- and as they are drawn
  pub drawn_rows : (deep : ℕ) → suc (length file.decompositions) ≡ deep → (first : ℕ → Option ℕ) (roots : List ℕ) (children : List (List ℕ)) → AreDrawn first listed.roots roots
      → AreAllDrawn first listed.children children → ArePreorder (children_at actions children) (root_rows roots) (rows_within (children_at actions children) deep (root_rows roots))
  drawn_rows deep e first roots children roots_are are =
      have_rows (children_at actions children) deep (root_rows roots)
      (λ line i. ends_too below (children_at actions children) (λ l c j. children_listed actions first listed.children children are l c j) deep line
      (subst (λ d. Ends below d line) e (line_ends file listed is line (roots_within file listed is line (drawn_is_listed first listed.roots roots roots_are line (root_in roots line i))))))

  module _ (rows : List Row) (preorder : ArePreorder below (root_rows listed.roots) rows) where
    -- the children of each row come after it
    pub are_after : AreAfter below (lines_of rows)
    are_after = children_after below (root_rows listed.roots) rows preorder

    -- rows are of lines
    pub are_lines : (line : ℕ) → IsIn line (lines_of rows) → line < actions + length file.decompositions
    are_lines line i =
        all_so (λ l. l < actions + length file.decompositions) below (λ l c low j. children_within file listed is l c j) (root_rows listed.roots) rows preorder
        (λ l j. roots_within file listed is l (root_in listed.roots l j)) line i

    reached_in : (line : ℕ) → IsReachedFrom actions listed.roots listed.children line → IsIn line (lines_of rows)
    reached_in line (a_root _ i) = are_among below (root_rows listed.roots) rows preorder line (subst (IsIn line) (sym (sibling_lines None 0 [] listed.roots)) i)
    reached_in line (a_child parent _ above i) = after_in below (lines_of rows) are_after parent line (reached_in parent above) i

    -- and of each line
    pub all_lines : (line : ℕ) → line < length (defined_ids file) → IsIn line (lines_of rows)
    all_lines line low = reached_in line (all_reached file listed is line low)

  -- ## From vectors
  many_lists : {A : Type 0} (vectors : List (Vec ℕ A)) → length (lists_of vectors) ≡ length vectors
  many_lists vectors = length-map vectors (λ v. v.items)

  deep_enough : {A : Type 0} (vectors : List (Vec ℕ A)) → length (lists_of vectors) ≡ length file.decompositions → suc (length file.decompositions) ≡ length vectors + 1
  deep_enough vectors many = let e = many_lists vectors in omega arith

  -- what the first walk requires
  pub listed_ready : {A : Type 0} (n : ℕ) (roots : List ℕ) (vectors : List (Vec ℕ A)) → n ≡ actions → roots ≡ listed.roots → lists_of vectors ≡ listed.children
      → ArePreorder (children_at n (lists_of vectors)) (root_rows roots) (rows_within (children_at n (lists_of vectors)) (length vectors + 1) (root_rows roots))
  listed_ready n roots vectors same_count same_roots same_lists =
      let many : length (lists_of vectors) ≡ length file.decompositions = ap length same_lists ∙ as_many_lists (defined_ids file) listed.children file.decompositions is.children in
      let P : ℕ → List ℕ → List (List ℕ) → Type 0 = λ k rs ls.
      ArePreorder (children_at k ls) (root_rows rs) (rows_within (children_at k ls) (length vectors + 1) (root_rows rs)) in
      subst (λ k. P k roots (lists_of vectors)) (sym same_count)
      (subst (λ rs. P actions rs (lists_of vectors)) (sym same_roots)
      (subst (λ ls. P actions listed.roots ls) (sym same_lists) (listed_rows (length vectors + 1) (deep_enough vectors many))))

  -- what the second walk requires
  pub drawn_ready : {A : Type 0} (n : ℕ) (roots : List ℕ) (vectors : List (Vec ℕ A)) (first : ℕ → Option ℕ) → n ≡ actions → AreDrawn first listed.roots roots
      → AreAllDrawn first listed.children (lists_of vectors)
      → ArePreorder (children_at n (lists_of vectors)) (root_rows roots) (rows_within (children_at n (lists_of vectors)) (length vectors + 1) (root_rows roots))
  drawn_ready n roots vectors first same_count roots_are are =
      let many : length (lists_of vectors) ≡ length file.decompositions =
      as_many first listed.children (lists_of vectors) are ∙ as_many_lists (defined_ids file) listed.children file.decompositions is.children in
      subst (λ k. ArePreorder (children_at k (lists_of vectors)) (root_rows roots) (rows_within (children_at k (lists_of vectors)) (length vectors + 1) (root_rows roots))) (sym same_count)
      (drawn_rows (length vectors + 1) (deep_enough vectors many) first roots (lists_of vectors) roots_are are)

  -- what is found is the picture
  pub is_drawing : (roots : List ℕ) (children : List (List ℕ)) (before rows : List Row) (first : ℕ → Option ℕ) → ArePreorder below (root_rows listed.roots) before
      → ((line : ℕ) → IsIn line (lines_of before) → IsFirstAction actions below line (first line)) → AreDrawn first listed.roots roots → AreAllDrawn first listed.children children
      → ArePreorder (children_at actions children) (root_rows roots) rows → IsDrawing file roots children rows
  is_drawing roots children before rows first preorder found roots_are are drawn = record {
    listed = listed;
    is_forest = is;
    first = first;
    is_first = λ line low. found line (all_lines before preorder line low);
    roots_drawn = roots_are;
    children_drawn = are;
    preorder = drawn;
  }

  -- the rows of the first walk
  pub first_rows : {A : Type 0} (n : ℕ) (roots : List ℕ) (vectors : List (Vec ℕ A)) (rows : List Row) → n ≡ actions → roots ≡ listed.roots → lists_of vectors ≡ listed.children
      → rows ≡ rows_within (children_at n (lists_of vectors)) (length vectors + 1) (root_rows roots) → ArePreorder below (root_rows listed.roots) rows
  first_rows n roots vectors rows same_count same_roots same_lists are =
      subst (λ ls. ArePreorder (children_at actions ls) (root_rows listed.roots) rows) same_lists
      (subst (λ rs. ArePreorder (children_at actions (lists_of vectors)) (root_rows rs) rows) same_roots
      (subst (λ k. ArePreorder (children_at k (lists_of vectors)) (root_rows roots) rows) same_count
      (subst (ArePreorder (children_at n (lists_of vectors)) (root_rows roots)) (sym are) (listed_ready n roots vectors same_count same_roots same_lists))))

  -- what the search for first actions requires
  pub after_ready : {A : Type 0} (n : ℕ) (vectors : List (Vec ℕ A)) (rows others : List Row) → n ≡ actions → lists_of vectors ≡ listed.children → others ≡ rows
      → ArePreorder below (root_rows listed.roots) rows → AreAfter (children_at n (lists_of vectors)) (lines_of others)
  after_ready n vectors rows others same_count same_lists same preorder =
      subst (λ k. AreAfter (children_at k (lists_of vectors)) (lines_of others)) (sym same_count)
      (subst (λ ls. AreAfter (children_at actions ls) (lines_of others)) (sym same_lists) (subst (λ rs. AreAfter below (lines_of rs)) (sym same) (are_after rows preorder)))

  pub lines_ready : (n m : ℕ) (rows others : List Row) → n ≡ actions → m ≡ length file.decompositions → others ≡ rows → ArePreorder below (root_rows listed.roots) rows
      → (line : ℕ) → IsIn line (lines_of others) → line < n + m
  lines_ready n m rows others same_count same_many same preorder line i =
      let low = are_lines rows preorder line (subst (λ rs. IsIn line (lines_of rs)) same i) in omega arith

  -- what it finds
  pub found_ready : {A : Type 0} (n : ℕ) (vectors : List (Vec ℕ A)) (rows others : List Row) (first : ℕ → Option ℕ) → n ≡ actions → lists_of vectors ≡ listed.children → others ≡ rows
      → ((line : ℕ) → IsIn line (lines_of others) → IsFirstAction n (children_at n (lists_of vectors)) line (first line)) → (line : ℕ) → IsIn line (lines_of rows) → IsFirstAction actions below line (first line)
  found_ready n vectors rows others first same_count same_lists same found line i =
      subst (λ ls. IsFirstAction actions (children_at actions ls) line (first line)) same_lists
      (subst (λ k. IsFirstAction k (children_at k (lists_of vectors)) line (first line)) same_count (found line (subst (λ rs. IsIn line (lines_of rs)) (sym same) i)))

  -- the rows of the second walk
  pub second_rows : {A : Type 0} (n : ℕ) (roots own_roots : List ℕ) (vectors own : List (Vec ℕ A)) (rows : List Row) → n ≡ actions → roots ≡ own_roots → vectors ≡ own
      → rows ≡ rows_within (children_at n (lists_of vectors)) (length vectors + 1) (root_rows roots)
      → ArePreorder (children_at n (lists_of vectors)) (root_rows roots) (rows_within (children_at n (lists_of vectors)) (length vectors + 1) (root_rows roots))
      → ArePreorder (children_at actions (lists_of own)) (root_rows own_roots) rows
  second_rows n roots own_roots vectors own rows same_count same_roots same_vectors are preorder =
      subst (λ vs. ArePreorder (children_at actions (lists_of vs)) (root_rows own_roots) rows) same_vectors
      (subst (λ rs. ArePreorder (children_at actions (lists_of vectors)) (root_rows rs) rows) same_roots
      (subst (λ k. ArePreorder (children_at k (lists_of vectors)) (root_rows roots) rows) same_count (subst (ArePreorder (children_at n (lists_of vectors)) (root_rows roots)) (sym are) preorder)))

-- ## The same lists

pub drawn_at : (firsts own_firsts : List (Option ℕ)) (lines own_lines drawn own_drawn : List ℕ) → firsts ≡ own_firsts → lines ≡ own_lines → drawn ≡ own_drawn
    → AreDrawn (λ line. get_or firsts line None) lines drawn → AreDrawn (λ line. get_or own_firsts line None) own_lines own_drawn
drawn_at firsts own_firsts lines own_lines drawn own_drawn e f g are =
    subst (λ fs. AreDrawn (λ line. get_or fs line None) own_lines own_drawn) e
    (subst (λ ls. AreDrawn (λ line. get_or firsts line None) ls own_drawn) f (subst (AreDrawn (λ line. get_or firsts line None) lines) g are))

pub all_drawn_at : (firsts own_firsts : List (Option ℕ)) (lists own_lists drawn own_drawn : List (List ℕ)) → firsts ≡ own_firsts → lists ≡ own_lists → drawn ≡ own_drawn
    → AreAllDrawn (λ line. get_or firsts line None) lists drawn → AreAllDrawn (λ line. get_or own_firsts line None) own_lists own_drawn
all_drawn_at firsts own_firsts lists own_lists drawn own_drawn e f g are =
    subst (λ fs. AreAllDrawn (λ line. get_or fs line None) own_lists own_drawn) e
    (subst (λ ls. AreAllDrawn (λ line. get_or firsts line None) ls own_drawn) f (subst (AreAllDrawn (λ line. get_or firsts line None) lists) g are))
