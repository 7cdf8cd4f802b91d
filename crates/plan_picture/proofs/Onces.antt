-- Each line of a forest stands in its rows once.
use Rattle.std.proofs.Common.{◌≡◌, ◌≢◌, ℕ, zero, suc, ◌+◌, ◌-◌, ◌<◌, ◌≤◌, Bool, true, false, cond, ltb, List, [], ◌∷◌, ◌++◌, length, get_or, map, Option, Some, None, slice_get, ◌⊎◌, inl, inr, refl, sym, ap, ap₂, ◌∙◌, subst, arith}
use Rattle.std.proofs.lemmas.Bool.{cases_eq, cases_lt, lt-ltb, le-ltb}
use Rattle.std.proofs.lemmas.List.{map-append}
use Rattle.std.specs.List.{flat_map}
use Rattle.htn_model.specs.PlanFile.{PlanFile, DecompositionLine, IsIn, IsWithoutRepeats, defined_ids, listed_ids, all_children}
use Rattle.htn_model.proofs.Ascending.{in_map, in_mapped}
use Rattle.plan_text.specs.Forest.{Forest, IsForestOf}
use Rattle.plan_text.specs.Numbers.{AreNumbersOf, AreNumbersOfChildren}
use Rattle.plan_text.specs.Reached.{children_at, IsReachedFrom, a_root, a_child}
use Rattle.plan_text.proofs.Bridged.{forest_lists_once, line_count}
use Rattle.plan_picture.specs.Order.{AreDrawn, AreAllDrawn}
use Rattle.plan_picture.specs.Rows.{Row, with_bar, child_rows, root_rows, ArePreorder, none, next}
use Rattle.plan_picture.specs.Firsts.{lines_of}
use Rattle.plan_picture.specs.Once.{AreAllOnce, DrawingsHaveAllOnce}
use Rattle.plan_picture.proofs.Ahead.{sibling_lines, lines_of-append, are_among, children_after, all_so}
use Rattle.plan_picture.proofs.Drawing.{after_in}
use Rattle.plan_picture.proofs.Ending.{roots_within, children_within, all_reached}
use Rattle.plan_picture.proofs.Ordered.{drawn_is_listed, children_listed}
use Rattle.plan_picture.proofs.Tallies.{tally, hit_same, tally-append, some_tally, tally_some, once_tally, tally_once, drawn_tally, children_tally}

-- ## Rows

-- how often a number stands among the children of lines
abbrev pub kids : (ℕ → List ℕ) → ℕ → List ℕ → ℕ
kids children x [] = 0
kids children x (l ∷ ls) = tally x (children l) + kids children x ls

kids-append : (children : ℕ → List ℕ) (x : ℕ) (xs ys : List ℕ) → kids children x (xs ++ ys) ≡ kids children x xs + kids children x ys
kids-append children x [] ys = omega arith
kids-append children x (z ∷ xs) ys = let e = kids-append children x xs ys in omega arith

-- each line of all rows is one of the first, or a child of one of the lines
pub counted : (children : ℕ → List ℕ) (x : ℕ) (rows all : List Row) → ArePreorder children rows all → tally x (lines_of all) ≡ tally x (lines_of rows) + kids children x (lines_of all)
counted children x _ _ none = refl
counted children x _ _ (next row rows below after p r) =
    let apart = lines_of-append below after in
    let t = ap (tally x) apart ∙ tally-append x (lines_of below) (lines_of after) in
    let k = ap (kids children x) apart ∙ kids-append children x (lines_of below) (lines_of after) in
    let b = counted children x (child_rows children row) below p in
    let s = ap (tally x) (sibling_lines (Some row.line) (row.depth + 1) (with_bar row.above row.is_last) (children row.line)) in
    let a = counted children x rows after r in
    omega arith

kids_same : (children others : ℕ → List ℕ) (x : ℕ) → ((line : ℕ) → tally x (children line) ≡ tally x (others line)) → (lines : List ℕ) → kids children x lines ≡ kids others x lines
kids_same children others x same [] = refl
kids_same children others x same (l ∷ lines) = let here = same l in let more = kids_same children others x same lines in omega arith

-- ## A forest lists each line once

unmapped_once : {X Y : Type 0} (f : X → Y) (xs : List X) → IsWithoutRepeats (map f xs) → IsWithoutRepeats xs
unmapped_once f [] once = tt
unmapped_once f (x ∷ xs) once = (λ i. once.0 (in_mapped f x xs i), unmapped_once f xs once.1)

some_once : (xs : List ℕ) → IsWithoutRepeats xs → IsWithoutRepeats (map Some xs)
some_once [] once = tt
some_once (x ∷ xs) once =
    ((λ i. (let (y, there, e) = in_map Some (Some x) xs i in let same : x ≡ y = cc in once.0 (subst (λ z. IsIn z xs) (sym same) there))), some_once xs once.1)

-- all lists, one after another
abbrev flat : List (List ℕ) → List ℕ
flat lists = flat_map (λ l. l) lists

flat_numbers : (ids : List ℕ) (lists : List (List ℕ)) (lines : List DecompositionLine) → AreNumbersOfChildren ids lists lines → AreNumbersOf ids (flat lists) (all_children lines)
flat_numbers ids [] lines are = subst (λ ls. AreNumbersOf ids [] (all_children ls)) (sym are) refl
flat_numbers ids (numbers ∷ lists) [] are = absurd are
flat_numbers ids (numbers ∷ lists) (line ∷ lines) are =
    map-append (slice_get ids) numbers (flat lists) ∙ ap₂ (λ xs ys. xs ++ ys) are.0 (flat_numbers ids lists lines are.1) ∙ sym (map-append Some line.children (all_children lines))

in_flat : (x : ℕ) (lists : List (List ℕ)) (k : ℕ) → tally x (get_or lists k []) ≤ tally x (flat lists)
in_flat x [] k = omega arith
in_flat x (l ∷ lists) zero = let e = tally-append x l (flat lists) in omega arith
in_flat x (l ∷ lists) (suc k) = let e = tally-append x l (flat lists) in let more = in_flat x lists k in omega arith

two_in_flat : (x : ℕ) (lists : List (List ℕ)) (j k : ℕ) → j ≢ k → tally x (get_or lists j []) + tally x (get_or lists k []) ≤ tally x (flat lists)
two_in_flat x [] j k other = omega arith
two_in_flat x (l ∷ lists) zero zero other = absurd (other refl)
two_in_flat x (l ∷ lists) zero (suc k) other = let e = tally-append x l (flat lists) in let more = in_flat x lists k in omega arith
two_in_flat x (l ∷ lists) (suc j) zero other = let e = tally-append x l (flat lists) in let more = in_flat x lists j in omega arith
two_in_flat x (l ∷ lists) (suc j) (suc k) other = let e = tally-append x l (flat lists) in let more = two_in_flat x lists j k (λ same. other (ap suc same)) in omega arith

module _ (file : PlanFile) (listed : Forest) (is : IsForestOf file listed) where
  -- how many action lines there are
  abbrev actions : ℕ
  actions = length file.actions

  -- the children as they are listed
  abbrev below : ℕ → List ℕ
  below = children_at actions listed.children

  listed_once : (x : ℕ) → tally x listed.roots + tally x (flat listed.children) ≤ 1
  listed_once x =
      let ids = defined_ids file in
      let numbers : List ℕ = listed.roots ++ flat listed.children in
      let are : map (slice_get ids) numbers ≡ map Some (listed_ids file) =
      map-append (slice_get ids) listed.roots (flat listed.children) ∙ ap₂ (λ xs ys. xs ++ ys) is.roots (flat_numbers ids listed.children file.decompositions is.children)
      ∙ sym (map-append Some file.roots (all_children file.decompositions)) in
      let once = unmapped_once (slice_get ids) numbers (subst IsWithoutRepeats (sym are) (some_once (listed_ids file) (forest_lists_once file is.is_forest))) in
      let few = once_tally x numbers once in
      let e = tally-append x listed.roots (flat listed.children) in
      omega arith

  child_in_flat : (x line : ℕ) → tally x (below line) ≤ tally x (flat listed.children)
  child_in_flat x line = by (ltb line actions)
    where
      by : (b : Bool) → tally x (cond b [] (get_or listed.children (line - actions) [])) ≤ tally x (flat listed.children)
      by true = omega arith
      by false = in_flat x listed.children (line - actions)

  -- no line has two parents
  one_parent : (x p line : ℕ) → p ≢ line → tally x (below p) + tally x (below line) ≤ tally x (flat listed.children)
  one_parent x p line other = by (cases_lt p actions) (cases_lt line actions)
    where
      none_below : (l : ℕ) → l < actions → tally x (below l) ≡ 0
      none_below l low = ap (λ b. tally x (cond b [] (get_or listed.children (l - actions) []))) (lt-ltb l actions low)

      by : (p < actions) ⊎ (actions ≤ p) → (line < actions) ⊎ (actions ≤ line) → tally x (below p) + tally x (below line) ≤ tally x (flat listed.children)
      by (inl low) at = let e = none_below p low in let few = child_in_flat x line in omega arith
      by (inr high) (inl low) = let e = none_below line low in let few = child_in_flat x p in omega arith
      by (inr high) (inr too) =
          let e = ap (λ b. tally x (cond b [] (get_or listed.children (p - actions) []))) (le-ltb p actions high) in
          let f = ap (λ b. tally x (cond b [] (get_or listed.children (line - actions) []))) (le-ltb line actions too) in
          let both = two_in_flat x listed.children (p - actions) (line - actions) (λ same. (let all : p ≡ line = omega arith in other all)) in
          omega arith

  -- a root is no child
  kids_of_root : (x : ℕ) → IsIn x listed.roots → (lines : List ℕ) → kids below x lines ≡ 0
  kids_of_root x i [] = refl
  kids_of_root x i (l ∷ lines) =
      let some = some_tally x listed.roots i in let few = listed_once x in let less = child_in_flat x l in let more = kids_of_root x i lines in omega arith

  -- and a child stands as often as its parent at most
  kids_of_child : (x p : ℕ) → IsIn x (below p) → (lines : List ℕ) → kids below x lines ≤ tally p lines
  kids_of_child x p i [] = omega arith
  kids_of_child x p i (l ∷ lines) = by (cases_eq p l) (kids_of_child x p i lines)
    where
      by : (p ≡ l) ⊎ (p ≢ l) → kids below x lines ≤ tally p lines → kids below x (l ∷ lines) ≤ tally p (l ∷ lines)
      by (inl same) more = let e = hit_same p l same in let few = listed_once x in let less = child_in_flat x l in omega arith
      by (inr other) more = let some = some_tally x (below p) i in let few = listed_once x in let less = one_parent x p l other in omega arith

  module _ (first : ℕ → Option ℕ) (roots : List ℕ) (children : List (List ℕ)) (rows : List Row) (roots_are : AreDrawn first listed.roots roots) (are : AreAllDrawn first listed.children children)
      (preorder : ArePreorder (children_at actions children) (root_rows roots) rows) where
    drawn_counted : (x : ℕ) → tally x (lines_of rows) ≡ tally x listed.roots + kids below x (lines_of rows)
    drawn_counted x =
        let whole = counted (children_at actions children) x (root_rows roots) rows preorder in
        let s = ap (tally x) (sibling_lines None 0 [] roots) in
        let r = drawn_tally first x listed.roots roots roots_are in
        let k = kids_same (children_at actions children) below x (children_tally actions first x listed.children children are) (lines_of rows) in
        omega arith

    -- a line that is reached stands there once at most
    pub reached_once : (x : ℕ) → IsReachedFrom actions listed.roots listed.children x → tally x (lines_of rows) ≤ 1
    reached_once x (a_root _ i) =
        let whole = drawn_counted x in let none = kids_of_root x i (lines_of rows) in let few = listed_once x in omega arith
    reached_once x (a_child parent _ above i) =
        let whole = drawn_counted x in
        let few = kids_of_child x parent i (lines_of rows) in
        let one = reached_once parent above in
        let some = some_tally x (below parent) i in
        let less = child_in_flat x parent in
        let all = listed_once x in
        omega arith

    -- and each is reached in the drawing
    reached_in : (x : ℕ) → IsReachedFrom actions listed.roots listed.children x → IsIn x (lines_of rows)
    reached_in x (a_root _ i) =
        let some = some_tally x listed.roots i in
        let r = drawn_tally first x listed.roots roots roots_are in
        are_among (children_at actions children) (root_rows roots) rows preorder x (subst (IsIn x) (sym (sibling_lines None 0 [] roots)) (tally_some x roots (omega arith)))
    reached_in x (a_child parent _ above i) =
        let some = some_tally x (below parent) i in
        let k = children_tally actions first x listed.children children are parent in
        after_in (children_at actions children) (lines_of rows) (children_after (children_at actions children) (root_rows roots) rows preorder) parent x (reached_in parent above)
        (tally_some x (children_at actions children parent) (omega arith))

    drawn_within : (x : ℕ) → IsIn x (lines_of rows) → x < actions + length file.decompositions
    drawn_within x i =
        all_so (λ l. l < actions + length file.decompositions) (children_at actions children)
        (λ l c low j. children_within file listed is l c (children_listed actions first listed.children children are l c j)) (root_rows roots) rows preorder
        (λ l j. roots_within file listed is l (drawn_is_listed first listed.roots roots roots_are l (subst (IsIn l) (sibling_lines None 0 [] roots) j))) x i

    pub drawn_once : AreAllOnce (length (defined_ids file)) (lines_of rows)
    drawn_once =
        let many = line_count file in
        record {
          within = λ x i. (let low = drawn_within x i in omega arith);
          all = λ x low. reached_in x (all_reached file listed is x low);
          once = tally_once (lines_of rows) (λ x i. reached_once x (all_reached file listed is x (let low = drawn_within x i in omega arith)));
        }

pub have_all_once : DrawingsHaveAllOnce
have_all_once file roots children rows d = drawn_once file d.listed d.is_forest d.first roots children rows d.roots_drawn d.children_drawn d.preorder
