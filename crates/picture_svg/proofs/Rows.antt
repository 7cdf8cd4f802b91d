-- One row more, from the last to the first.
use Rattle.std.proofs.Common.{◌≡◌, ℕ, zero, suc, ◌+◌, ◌-◌, ◌<◌, ◌≤◌, cond, nat_lt, max, List, [], ◌∷◌, ◌++◌, length, get_or, map, take, drop, inl, inr, refl, sym, ap, ap₂, ◌∙◌, arith}
use Rattle.std.proofs.lemmas.List.{drop_more, take_more}
use Rattle.htn_model.specs.PlanFile.{IsIn}
use Rattle.plan_picture.specs.Firsts.{lines_of}
use Rattle.plan_picture.specs.declared.row.Row.{Row as DeclaredRow}
use Rattle.plan_picture.specs.Rows.{Row}
use Rattle.plan_picture.specs.Seen.{seen, seen_all}
use Rattle.picture_svg.specs.declared.layout.Area.{Area}
use Rattle.picture_svg.specs.Columns.{AreWidest}
use Rattle.picture_svg.specs.Grid.{is_in_column, widest, column_count, own_places, place_count}
use Rattle.picture_svg.specs.Layout.{reach}

seen_at : (rows : List DeclaredRow) (i : ℕ) (d : DeclaredRow) → get_or (seen_all rows) i (seen d) ≡ seen (get_or rows i d)
seen_at [] i d = refl
seen_at (r ∷ rows) zero d = refl
seen_at (r ∷ rows) (suc i) d = seen_at rows i d

pub as_many : (rows : List DeclaredRow) → length (seen_all rows) ≡ length rows
as_many [] = refl
as_many (r ∷ rows) = ap suc (as_many rows)

-- the rows from some place on, and one more before them
pub row_more : (rows : List DeclaredRow) (left : ℕ) (d : DeclaredRow) → 0 < left → left ≤ length rows → drop (left - 1) (seen_all rows) ≡ seen (get_or rows (left - 1) d) ∷ drop left (seen_all rows)
row_more rows left d some within =
    let many = as_many rows in
    let next : left - 1 + 1 ≡ left = omega arith in
    drop_more (seen_all rows) (left - 1) (seen d) (omega arith) ∙ ap₂ (λ r k. r ∷ drop k (seen_all rows)) (seen_at rows (left - 1) d) next

-- the same where the row is named
own_row : (rows : List DeclaredRow) (left : ℕ) (r : DeclaredRow) → 0 < left → left ≤ length rows → r ≡ get_or rows (left - 1) r → drop (left - 1) (seen_all rows) ≡ seen r ∷ drop left (seen_all rows)
own_row rows left r some within is = row_more rows left r some within ∙ ap (λ x. seen x ∷ drop left (seen_all rows)) (sym is)

-- and the rows before some place, without the last of them
pub row_less : (rows : List DeclaredRow) (left : ℕ) (d : DeclaredRow) → 0 < left → left ≤ length rows → take left (seen_all rows) ≡ take (left - 1) (seen_all rows) ++ seen (get_or rows (left - 1) d) ∷ []
row_less rows left d some within =
    let many = as_many rows in
    let next : left ≡ left - 1 + 1 = omega arith in
    ap (λ k. take k (seen_all rows)) next ∙ take_more (seen_all rows) (left - 1) (seen d) (omega arith) ∙ ap (λ r. take (left - 1) (seen_all rows) ++ r ∷ []) (seen_at rows (left - 1) d)

-- the line of a row is among the lines of all
pub row_in : (rows : List DeclaredRow) (i : ℕ) (d : DeclaredRow) → i < length rows → IsIn (get_or rows i d).line (lines_of (seen_all rows))
row_in [] i d low = absurd (omega arith)
row_in (r ∷ rows) zero d low = inl refl
row_in (r ∷ rows) (suc i) d low = inr (row_in rows i d (omega arith))

-- ## Columns

pub columns_more : (actions : ℕ) (rows : List DeclaredRow) (left : ℕ) (r : DeclaredRow) (count more : ℕ) → 0 < left → left ≤ length rows → r ≡ get_or rows (left - 1) r
    → count ≡ column_count actions (drop left (seen_all rows)) → more ≡ cond (nat_lt r.line actions) count (max (r.depth + 1) count) → more ≡ column_count actions (drop (left - 1) (seen_all rows))
columns_more actions rows left r count more some within is before step =
    step ∙ ap (λ n. cond (nat_lt r.line actions) n (max (r.depth + 1) n)) before ∙ sym (ap (column_count actions) (own_row rows left r some within is))

pub widest_more : (actions : ℕ) (width : ℕ → ℕ) (count : ℕ) (rows : List DeclaredRow) (left : ℕ) (r : DeclaredRow) (wide more : List ℕ) → 0 < left → left ≤ length rows → r ≡ get_or rows (left - 1) r
    → AreWidest actions width count (drop left (seen_all rows)) wide → length more ≡ length wide
    → ((column : ℕ) → column < length wide → get_or more column 0 ≡ cond (is_in_column actions column (seen r)) (max (width r.line) (get_or wide column 0)) (get_or wide column 0))
    → AreWidest actions width count (drop (left - 1) (seen_all rows)) more
widest_more actions width count rows left r wide more some within is are long step =
    let all = are.long in
    record {
      long = long ∙ are.long;
      widest_box = λ column low.
          step column (omega arith) ∙ ap (λ n. cond (is_in_column actions column (seen r)) (max (width r.line) n) n) (are.widest_box column low)
          ∙ sym (ap (widest actions width column) (own_row rows left r some within is));
    }

-- ## Places

few_places : (children : List ℕ) → own_places children ≤ 1
few_places [] = omega arith
few_places (child ∷ children) = omega arith

pub places_more : (children : ℕ → List ℕ) (rows : List DeclaredRow) (left : ℕ) (d : DeclaredRow) (count own : ℕ) → 0 < left → left ≤ length rows
    → count ≡ place_count children (drop left (seen_all rows)) → own ≡ own_places (children (get_or rows (left - 1) d).line) → count + own ≡ place_count children (drop (left - 1) (seen_all rows))
places_more children rows left d count own some within before here =
    let more = ap (place_count children) (row_more rows left d some within) in omega arith

pub places_few : (children : ℕ → List ℕ) (rows : List DeclaredRow) (left : ℕ) (d : DeclaredRow) (own : ℕ) → own ≡ own_places (children (get_or rows (left - 1) d).line) → own ≤ 1
places_few children rows left d own here = let few = few_places (children (get_or rows (left - 1) d).line) in omega arith

pub place_count-append : (children : ℕ → List ℕ) (xs ys : List Row) → place_count children (xs ++ ys) ≡ place_count children xs + place_count children ys
place_count-append children [] ys = omega arith
place_count-append children (x ∷ xs) ys = let more = place_count-append children xs ys in omega arith

pub places_less : (children : ℕ → List ℕ) (rows : List DeclaredRow) (left : ℕ) (d : DeclaredRow) (place own : ℕ) → 0 < left → left ≤ length rows
    → place ≡ place_count children (take left (seen_all rows)) → own ≡ own_places (children (get_or rows (left - 1) d).line) → place ≡ place_count children (take (left - 1) (seen_all rows)) + own
places_less children rows left d place own some within before here =
    let r = seen (get_or rows (left - 1) d) in
    let less = ap (place_count children) (row_less rows left d some within) in
    let parts = place_count-append children (take (left - 1) (seen_all rows)) (r ∷ []) in
    omega arith

-- ## Boxes and edges

pub reach_more : (areas : List Area) (left : ℕ) (d : Area) → 0 < left → left ≤ length areas
    → reach (drop (left - 1) areas) ≡ max ((get_or areas (left - 1) d).x + (get_or areas (left - 1) d).width) (reach (drop left areas))
reach_more areas left d some within =
    let next : left - 1 + 1 ≡ left = omega arith in
    ap reach (drop_more areas (left - 1) d (omega arith)) ∙ ap (λ k. max ((get_or areas (left - 1) d).x + (get_or areas (left - 1) d).width) (reach (drop k areas))) next

take_all : {X : Type 0} (xs : List X) (i : ℕ) → length xs ≤ i → take i xs ≡ xs
take_all [] zero many = refl
take_all [] (suc i) many = refl
take_all (x ∷ xs) zero many = absurd (omega arith)
take_all (x ∷ xs) (suc i) many = ap (λ ys. x ∷ ys) (take_all xs i (omega arith))

map_seen : {X : Type 0} (f : Row → X) (rows : List DeclaredRow) → map (λ r. f (seen r)) rows ≡ map f (seen_all rows)
map_seen f [] = refl
map_seen f (r ∷ rows) = ap (λ xs. f (seen r) ∷ xs) (map_seen f rows)

-- what is made of each row
pub all_made : {X : Type 0} (f : Row → X) (rows : List DeclaredRow) (i : ℕ) (items : List X) → length rows ≤ i → items ≡ map (λ r. f (seen r)) (take i rows) → items ≡ map f (seen_all rows)
all_made f rows i items end made = made ∙ ap (map (λ r. f (seen r))) (take_all rows i end) ∙ map_seen f rows
