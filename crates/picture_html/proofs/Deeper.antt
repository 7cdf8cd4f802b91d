-- The rows after a row that are below more lines are those of what is below its line.
use Rattle.std.proofs.Common.{◌≡◌, ℕ, suc, ◌+◌, ◌<◌, ◌≤◌, Bool, true, false, nat_lt, cond, List, [], ◌∷◌, ◌++◌, Option, Some, None, inl, inr, refl, sym, ap, subst, ◌∙◌, arith}
use Rattle.std.proofs.lemmas.Bool.{ltb-true, lt-ltb, le-ltb}
use Rattle.std.proofs.lemmas.List.{append_assoc, append-nil}
use Rattle.htn_model.specs.PlanFile.{IsIn}
use Rattle.htn_model.proofs.Ascending.{in_left, in_right, in_split}
use Rattle.plan_picture.specs.Below.{IsBelow, itself, further}
use Rattle.plan_picture.specs.Firsts.{AreAfter, lines_of}
use Rattle.plan_picture.specs.Rows.{Row, siblings, with_bar, child_rows, root_rows, ArePreorder, none, next}
use Rattle.plan_picture.proofs.Ahead.{sibling_lines, lines_of-append, children_after}
use Rattle.picture_html.specs.Runs.{deeper, own_position, positions}

-- ## What is below a row stands right after it

pub sibling_depth : (parent : Option ℕ) (depth : ℕ) (above : List Bool) (lines : List ℕ) (row : Row) → IsIn row (siblings parent depth above lines) → row.depth ≡ depth
sibling_depth parent depth above [] row i = absurd i
sibling_depth parent depth above (line ∷ lines) row (inl same) = ap (λ (r : Row). r.depth) same
sibling_depth parent depth above (line ∷ lines) row (inr i) = sibling_depth parent depth above lines row i

pub child_depth : (children : ℕ → List ℕ) (row child : Row) → IsIn child (child_rows children row) → child.depth ≡ row.depth + 1
child_depth children row child i = sibling_depth (Some row.line) (row.depth + 1) (with_bar row.above row.is_last) (children row.line) child i

-- rows deeper than some number have below them only rows that are
pub all_deep : (children : ℕ → List ℕ) (d : ℕ) (rows all : List Row) → ArePreorder children rows all → ((row : Row) → IsIn row rows → d < row.depth) → (row : Row) → IsIn row all → d < row.depth
all_deep children d _ _ none deep row i = absurd i
all_deep children d _ _ (next top rows below after p r) deep row (inl same) = let h : d < top.depth = deep top (inl refl) in let e : row.depth ≡ top.depth = ap (λ (x : Row). x.depth) same in omega arith
all_deep children d _ _ (next top rows below after p r) deep row (inr i) =
    elim (in_split row below after i) [
      | inl j ↦ all_deep children d (child_rows children top) below p (λ child k. (let e : child.depth ≡ top.depth + 1 = child_depth children top child k in let h : d < top.depth = deep top (inl refl) in omega arith)) row j
      | inr j ↦ all_deep children d rows after r (λ other k. deep other (inr k)) row j
    ]

-- rows that are below at most some lines come next, or none
abbrev pub IsUpTo : ℕ → List Row → Type 0
IsUpTo d [] = Unit {0}
IsUpTo d (row ∷ rows) = row.depth ≤ d

one_more : (a b : ℕ) → a ≤ b → a ≤ suc b
one_more a b h = omega arith

pub no_more : (a b : ℕ) → a ≡ b → a ≤ b
no_more a b e = omega arith

wider : (d : ℕ) (rows : List Row) → IsUpTo d rows → IsUpTo (suc d) rows
wider d [] h = tt
wider d (row ∷ rows) h = one_more row.depth d h

first_up : (children : ℕ → List ℕ) (d : ℕ) (rows all tail : List Row) → ArePreorder children rows all → ((row : Row) → IsIn row rows → row.depth ≡ d) → IsUpTo d tail → IsUpTo d (all ++ tail)
first_up children d _ _ tail none have h = h
first_up children d _ _ tail (next row rows below after p r) have h = no_more row.depth d (have row (inl refl))

no_deeper : (d : ℕ) (rows : List Row) → IsUpTo d rows → deeper d rows ≡ []
no_deeper d [] h = refl
no_deeper d (row ∷ rows) h = ap (λ b. cond b (row ∷ deeper d rows) []) (le-ltb d row.depth h)

pub deeper_are : (d : ℕ) (rows tail : List Row) → ((row : Row) → IsIn row rows → d < row.depth) → IsUpTo d tail → deeper d (rows ++ tail) ≡ rows
deeper_are d [] tail deep h = no_deeper d tail h
deeper_are d (row ∷ rows) tail deep h =
    let low = deep row (inl refl) in
    ap (λ b. cond b (row ∷ deeper d (rows ++ tail)) []) (lt-ltb d row.depth low)
    ∙ ap (λ xs. row ∷ xs) (deeper_are d rows tail (λ other i. deep other (inr i)) h)

-- the rows after each that are below more lines are those below its line
abbrev pub OwnRows : (ℕ → List ℕ) → List Row → Type 0
OwnRows children [] = Unit {0}
OwnRows children (row ∷ rows) = ArePreorder children (child_rows children row) (deeper row.depth rows) × OwnRows children rows

own_rows_before : (children : ℕ → List ℕ) (d : ℕ) (rows all tail : List Row) → ArePreorder children rows all → ((row : Row) → IsIn row rows → row.depth ≡ d)
    → IsUpTo d tail → OwnRows children tail → OwnRows children (all ++ tail)
own_rows_before children d _ _ tail none have up own = own
own_rows_before children d _ _ tail (next row rows below after p r) have up own =
    let here : row.depth ≡ d = have row (inl refl) in
    let later = own_rows_before children d rows after tail r (λ other i. have other (inr i)) up own in
    let ups : IsUpTo d (after ++ tail) = first_up children d rows after tail r (λ other i. have other (inr i)) up in
    let kids : (child : Row) → IsIn child (child_rows children row) → child.depth ≡ suc d = λ child i. (let e : child.depth ≡ row.depth + 1 = child_depth children row child i in omega arith) in
    let rest = own_rows_before children (suc d) (child_rows children row) below (after ++ tail) p kids (wider d (after ++ tail) ups) later in
    let deep : (other : Row) → IsIn other below → row.depth < other.depth =
    all_deep children row.depth (child_rows children row) below p (λ child i. (let e : child.depth ≡ row.depth + 1 = child_depth children row child i in omega arith)) in
    let parts = append_assoc below after tail in
    let found : deeper row.depth ((below ++ after) ++ tail) ≡ below =
    ap (deeper row.depth) parts ∙ deeper_are row.depth below (after ++ tail) deep (subst (λ k. IsUpTo k (after ++ tail)) (sym here) ups) in
    (subst (ArePreorder children (child_rows children row)) (sym found) p, subst (OwnRows children) (sym parts) rest)

pub own_rows_all : (children : ℕ → List ℕ) (roots : List ℕ) (all : List Row) → ArePreorder children (root_rows roots) all → OwnRows children all
own_rows_all children roots all p =
    subst (OwnRows children) (append-nil all) (own_rows_before children 0 (root_rows roots) all [] p (sibling_depth None 0 [] roots) tt tt)

-- ## What is below a line is in those rows

-- each line of rows is below one of those at the top
is_below : (children : ℕ → List ℕ) (rows all : List Row) → ArePreorder children rows all → (n : ℕ) → IsIn n (lines_of all) → (top : ℕ) × IsIn top (lines_of rows) × IsBelow children top n
is_below children _ _ none n i = absurd i
is_below children _ _ (next row rows below after p r) n (inl same) = (n, inl same, itself n)
is_below children _ _ (next row rows below after p r) n (inr i) =
    elim (in_split n (lines_of below) (lines_of after) (subst (IsIn n) (lines_of-append below after) i)) [
      | inl j ↦ (let child = is_below children (child_rows children row) below p n j in (
        row.line,
        inl refl,
        further row.line child.0 n
            (subst (IsIn child.0) (sibling_lines (Some row.line) (row.depth + 1) (with_bar row.above row.is_last) (children row.line)) child.1) child.2,
      ))
      | inr j ↦ (let other = is_below children rows after r n j in (other.0, inr other.1, other.2))
    ]

-- lines among which are the children of each
among : (children : ℕ → List ℕ) (lines : List ℕ) → AreAfter children lines → (line child : ℕ) → IsIn line lines → IsIn child (children line) → IsIn child lines
among children [] after line child i j = absurd i
among children (l ∷ lines) after line child (inl same) j = inr (after.0 child (subst (λ k. IsIn child (children k)) same j))
among children (l ∷ lines) after line child (inr i) j = inr (among children lines after.1 line child i j)

all_among : (children : ℕ → List ℕ) (lines : List ℕ) → AreAfter children lines → (top n : ℕ) → IsBelow children top n → IsIn top lines → IsIn n lines
all_among children lines after top _ (itself _) i = i
all_among children lines after top n (further _ child _ c b) i = all_among children lines after child n b (among children lines after top child i c)

-- the lines of a row and of what is below it
module _ (children : ℕ → List ℕ) (row : Row) (below : List Row) (p : ArePreorder children (child_rows children row) below) where
  whole : ArePreorder children (row ∷ []) (row ∷ below)
  whole = subst (ArePreorder children (row ∷ [])) (ap (λ xs. row ∷ xs) (append-nil below)) (next row [] below [] p none)

  pub line_below : (n : ℕ) → IsIn n (lines_of (row ∷ below)) → IsBelow children row.line n
  line_below n i = by (is_below children (row ∷ []) (row ∷ below) whole n i)
    where
      by : (top : ℕ) × IsIn top (row.line ∷ []) × IsBelow children top n → IsBelow children row.line n
      by (top, inl same, b) = subst (λ k. IsBelow children k n) same b
      by (top, inr i, b) = absurd i

  pub below_line : (n : ℕ) → IsBelow children row.line n → IsIn n (lines_of (row ∷ below))
  below_line n b = all_among children (lines_of (row ∷ below)) (children_after children (row ∷ []) (row ∷ below) whole) row.line n b (inl refl)

-- ## The positions among rows

own_of : (t : Bool) (line n : ℕ) → IsIn n (cond t (line ∷ []) []) → (t ≡ true) × (n ≡ line)
own_of true line n (inl same) = (refl, same)
own_of true line n (inr i) = absurd i
own_of false line n i = absurd i

pub of_positions : (actions : ℕ) (rows : List Row) (n : ℕ) → IsIn n (positions actions rows) → (n < actions) × IsIn n (lines_of rows)
of_positions actions [] n i = absurd i
of_positions actions (row ∷ rows) n i =
    elim (in_split n (own_position actions row) (positions actions rows) i) [
      | inl j ↦ (let own = own_of (nat_lt row.line actions) row.line n j in ((let e : n ≡ row.line = own.1 in let h : row.line < actions = ltb-true row.line actions own.0 in omega arith), inl own.1))
      | inr j ↦ (let rest = of_positions actions rows n j in (rest.0, inr rest.1))
    ]

pub to_positions : (actions : ℕ) (rows : List Row) (n : ℕ) → n < actions → IsIn n (lines_of rows) → IsIn n (positions actions rows)
to_positions actions [] n low i = absurd i
to_positions actions (row ∷ rows) n low (inl same) =
    let test = lt-ltb row.line actions (let e = same in omega arith) in
    in_left n (own_position actions row) (positions actions rows) (subst (λ t. IsIn n (cond t (row.line ∷ []) [])) (sym test) (inl same))
to_positions actions (row ∷ rows) n low (inr i) = in_right n (own_position actions row) (positions actions rows) (to_positions actions rows n low i)
