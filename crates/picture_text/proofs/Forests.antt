-- Pictures with one value as JSON are of one forest.
use Rattle.std.proofs.Common.{◌≡◌, ℕ, zero, suc, ◌+◌, ◌-◌, ◌<◌, ◌≤◌, Bool, true, false, nat_lt, cond, codes, List, [], ◌∷◌, ◌++◌, length, get_or, map, Option, Some, None, slice_get, option_map, ◌⊎◌, inl, inr, refl, sym, ap, ap₂, ◌∙◌, subst, arith}
use Rattle.std.specs.List.{flat_map}
use Rattle.std.proofs.lemmas.Bool.{cases_lt, lt-ltb, le-ltb}
use Rattle.htn_model.specs.PlanFile.{ActionLine, DecompositionLine, PlanFile, IsIn}
use Rattle.serde_json.specs.Data.{Data, array}
use Rattle.serde_json.specs.Find.{get}
use Rattle.serde_json.specs.View.{items_of}
use Rattle.diagnostics.specs.Json.{Named, object_of, array_of, count}
use Rattle.plan_text.specs.Forest.{lists_of}
use Rattle.plan_text.specs.Reached.{children_at}
use Rattle.plan_text.proofs.Bridged.{line_count}
use Rattle.plan_picture.specs.declared.row.Row.{Row as DeclaredRow}
use Rattle.plan_picture.specs.Rows.{Row}
use Rattle.plan_picture.specs.Firsts.{lines_of}
use Rattle.plan_picture.specs.Seen.{seen, seen_all}
use Rattle.plan_picture.specs.Picture.{IsDrawing}
use Rattle.plan_picture.proofs.Onces.{have_all_once}
use Rattle.picture_text.specs.Lines.{Line, action, task, id_of, line_at, id_or_zero, id_at}
use Rattle.picture_text.specs.declared.detail.Condition.{Condition}
use Rattle.picture_text.specs.declared.detail.Detail.{Detail}
use Rattle.picture_text.specs.Details.{detail_at}
use Rattle.picture_text.specs.Json.{parent_json, line_members, setting_member, condition_members, detail_members, node_json, nodes_json, row_json, ids_json}
use Rattle.picture_text.specs.OneForest.{child_ids, JsonShowsForests}

-- ## Values

some_same : {X : Type 0} (x y : X) → Some x ≡ Some y → x ≡ y
some_same x y e = cc

count_same : (m n : ℕ) → count m ≡ count n → m ≡ n
count_same m n e = cc

one_item : (d e : Data) (ds es : List Data) → array_of (d ∷ ds) ≡ array_of (e ∷ es) → (d ≡ e) × (array_of ds ≡ array_of es)
one_item d e ds es same = let rest : items_of ds ≡ items_of es = cc in (cc, ap array rest)

no_item : (d : Data) (ds : List Data) → array_of [] ≡ array_of (d ∷ ds) → ⊥
no_item d ds same = cc

-- the same numbers
ids_same : {A B : Type 0} (f : A → ℕ) (g : B → ℕ) (xs : List A) (ys : List B) → array_of (map (λ x. count (f x)) xs) ≡ array_of (map (λ y. count (g y)) ys) → map f xs ≡ map g ys
ids_same f g [] [] e = refl
ids_same f g [] (y ∷ ys) e = absurd (no_item (count (g y)) (map (λ z. count (g z)) ys) e)
ids_same f g (x ∷ xs) [] e = absurd (no_item (count (f x)) (map (λ z. count (f z)) xs) (sym e))
ids_same f g (x ∷ xs) (y ∷ ys) e =
    let both = one_item (count (f x)) (count (g y)) (map (λ z. count (f z)) xs) (map (λ z. count (g z)) ys) e in
    ap₂ (λ n ns. n ∷ ns) (count_same (f x) (g y) both.0) (ids_same f g xs ys both.1)

-- ## One row

-- the ids of the children in the JSON of a line
abbrev shown_ids : PlanFile → List ℕ → Line → List ℕ
shown_ids file children (action line) = []
shown_ids file children (task line) = map (id_at file) children

no_value : (d : Data) → None ≡ Some d → ⊥
no_value d e = cc

module _ (file : PlanFile) (kids : List (List ℕ)) (row : Row) (place : ℕ) where
  -- the value of a line with some more members
  abbrev value_with : Line → List Named → Data
  value_with line more =
      object_of ((codes "id", count (id_of line)) ∷ (codes "line", count place) ∷ (codes "parent", parent_json file row.parent)
      ∷ line_members file (children_at (length file.actions) kids row.line) row.line line ++ more)

  -- its children
  abbrev below : Line → Option Data
  below (action line) = None
  below (task line) = Some (ids_json file (children_at (length file.actions) kids row.line))

  -- the id and the children are there, whatever is said of the line
  abbrev IsShown : Line → List Named → Type 0
  IsShown line more = (get (codes "id") (value_with line more) ≡ Some (count (id_of line))) × (get (codes "children") (value_with line more) ≡ below line)

  with_condition : (line : Line) (parameters : Data) (condition : Option Condition) → IsShown line ((codes "parameters", parameters) ∷ condition_members condition)
  with_condition (action line) parameters None = (refl, refl)
  with_condition (task line) parameters None = (refl, refl)
  with_condition (action line) parameters (Some condition) = (refl, refl)
  with_condition (task line) parameters (Some condition) = (refl, refl)

  is_shown : (line : Line) (detail : Option Detail) → IsShown line (detail_members detail)
  is_shown (action line) None = (refl, refl)
  is_shown (task line) None = (refl, refl)
  is_shown line (Some detail) = with_condition line (object_of (map setting_member detail.settings.items)) detail.condition

one_node : (file other : PlanFile) (kids other_kids : List (List ℕ)) (row other_row : Row) (place other_place : ℕ) (detail other_detail : Option Detail) (line other_line : Line)
    → node_json file kids row place detail line ≡ node_json other other_kids other_row other_place other_detail other_line
    → (id_of line ≡ id_of other_line) × (shown_ids file (children_at (length file.actions) kids row.line) line ≡ shown_ids other (children_at (length other.actions) other_kids other_row.line) other_line)
one_node file other kids other_kids row other_row place other_place detail other_detail line other_line e =
    let is = is_shown file kids row place line detail in
    let are = is_shown other other_kids other_row other_place other_line other_detail in
    let id : Some (count (id_of line)) ≡ Some (count (id_of other_line)) = sym is.0 ∙ ap (get (codes "id")) e ∙ are.0 in
    let children : below file kids row place line ≡ below other other_kids other_row other_place other_line = sym is.1 ∙ ap (get (codes "children")) e ∙ are.1 in
    (count_same (id_of line) (id_of other_line) (some_same (count (id_of line)) (count (id_of other_line)) id), by line other_line children)
  where
    own : List ℕ
    own = children_at (length file.actions) kids row.line

    others : List ℕ
    others = children_at (length other.actions) other_kids other_row.line

    by : (l m : Line) → below file kids row place l ≡ below other other_kids other_row other_place m → shown_ids file own l ≡ shown_ids other others m
    by (action l) (action m) h = refl
    by (action l) (task m) h = absurd (no_value (ids_json other others) h)
    by (task l) (action m) h = absurd (no_value (ids_json file own) (sym h))
    by (task l) (task m) h = ids_same (id_at file) (id_at other) own others (some_same (ids_json file own) (ids_json other others) h)

no_task : (o : Option DecompositionLine) (line : ActionLine) → option_map task o ≡ Some (action line) → ⊥
no_task None line e = cc
no_task (Some d) line e = cc

-- an action has no children
shown_is : (file : PlanFile) (kids : List (List ℕ)) (number : ℕ) (line : Line) → line_at file number ≡ Some line → child_ids file kids number ≡ shown_ids file (children_at (length file.actions) kids number) line
shown_is file kids number (task line) e = refl
shown_is file kids number (action line) e = by (nat_lt number (length file.actions)) e
  where
    by : (b : Bool) → cond b (option_map action (slice_get file.actions number)) (option_map task (slice_get file.decompositions (number - length file.actions))) ≡ Some (action line)
        → map (id_at file) (cond b [] (get_or kids (number - length file.actions) [])) ≡ []
    by true h = refl
    by false h = absurd (no_task (slice_get file.decompositions (number - length file.actions)) line h)

-- ## All rows

-- the lines of rows are there
abbrev AreThere : PlanFile → List DeclaredRow → Type 0
AreThere file [] = Unit {0}
AreThere file (r ∷ rows) = ((line : Line) × (line_at file r.line ≡ Some line)) × AreThere file rows

at_there : {X : Type 0} (xs : List X) (j : ℕ) → j < length xs → (x : X) × (slice_get xs j ≡ Some x)
at_there [] j low = absurd (omega arith)
at_there (x ∷ xs) zero low = (x, refl)
at_there (x ∷ xs) (suc j) low = at_there xs j (omega arith)

line_there : (file : PlanFile) (n : ℕ) → n < length file.actions + length file.decompositions → (line : Line) × (line_at file n ≡ Some line)
line_there file n low = by (cases_lt n (length file.actions))
  where
    by : (n < length file.actions) ⊎ (length file.actions ≤ n) → (line : Line) × (line_at file n ≡ Some line)
    by (inl less) =
        let (l, at) = at_there file.actions n less in
        (action l, ap (λ b. cond b (option_map action (slice_get file.actions n)) (option_map task (slice_get file.decompositions (n - length file.actions)))) (lt-ltb n (length file.actions) less) ∙ ap (option_map action) at)
    by (inr more) =
        let (l, at) = at_there file.decompositions (n - length file.actions) (omega arith) in
        (task l, ap (λ b. cond b (option_map action (slice_get file.actions n)) (option_map task (slice_get file.decompositions (n - length file.actions)))) (le-ltb n (length file.actions) more) ∙ ap (option_map task) at)

are_there : (file : PlanFile) (rows : List DeclaredRow) → ((line : ℕ) → IsIn line (lines_of (seen_all rows)) → line < length file.actions + length file.decompositions) → AreThere file rows
are_there file [] low = tt
are_there file (r ∷ rows) low = (line_there file r.line (low r.line (inl refl)), are_there file rows (λ line i. low line (inr i)))

drawing_there : (file : PlanFile) (roots : List ℕ) (children : List (List ℕ)) (rows : List DeclaredRow) → IsDrawing file roots children (seen_all rows) → AreThere file rows
drawing_there file roots children rows drawing =
    let once = have_all_once file roots children (seen_all rows) drawing in
    are_there file rows (λ line i. (let low = once.within line i in let many = line_count file in omega arith))

-- all nodes
abbrev nodes : List ℕ → Option (List Detail) → PlanFile → List (List ℕ) → List DeclaredRow → List Data
nodes lines details file kids rows = flat_map (λ r. row_json lines details file kids (seen r)) rows

-- the value of a row whose line is there
abbrev node_of : List ℕ → Option (List Detail) → PlanFile → List (List ℕ) → DeclaredRow → Line → Data
node_of lines details file kids r line = node_json file kids (seen r) (get_or lines r.line 0) (detail_at details (length file.actions) r.line) line

-- one node and the rest
node_first : (lines : List ℕ) (details : Option (List Detail)) (file : PlanFile) (kids : List (List ℕ)) (r : DeclaredRow) (rows : List DeclaredRow) (line : Line) → line_at file r.line ≡ Some line
    → nodes lines details file kids (r ∷ rows) ≡ node_of lines details file kids r line ∷ nodes lines details file kids rows
node_first lines details file kids r rows line e =
    ap (λ o. nodes_json file kids (seen r) (get_or lines r.line 0) (detail_at details (length file.actions) r.line) o ++ nodes lines details file kids rows) e

module _ (lines other_lines : List ℕ) (details other_details : Option (List Detail)) (file other : PlanFile) (kids other_kids : List (List ℕ)) where
  -- the nodes of some rows, and the value of one
  abbrev own_nodes : List DeclaredRow → List Data
  own_nodes rows = nodes lines details file kids rows

  abbrev other_nodes : List DeclaredRow → List Data
  other_nodes rows = nodes other_lines other_details other other_kids rows

  same_nodes : (rows others : List DeclaredRow) → AreThere file rows → AreThere other others → array_of (own_nodes rows) ≡ array_of (other_nodes others)
      → (map (λ r. id_at file r.line) rows ≡ map (λ r. id_at other r.line) others) × (map (λ r. child_ids file kids r.line) rows ≡ map (λ r. child_ids other other_kids r.line) others)
  same_nodes [] [] there there_too e = (refl, refl)
  same_nodes [] (s ∷ others) there there_too e =
      let first = node_first other_lines other_details other other_kids s others there_too.0.0 there_too.0.1 in
      absurd (no_item (node_of other_lines other_details other other_kids s there_too.0.0) (other_nodes others) (e ∙ ap array_of first))
  same_nodes (r ∷ rows) [] there there_too e =
      let first = node_first lines details file kids r rows there.0.0 there.0.1 in
      absurd (no_item (node_of lines details file kids r there.0.0) (own_nodes rows) (sym (sym (ap array_of first) ∙ e)))
  same_nodes (r ∷ rows) (s ∷ others) there there_too e =
      let line = there.0.0 in
      let other_line = there_too.0.0 in
      let first = node_first lines details file kids r rows line there.0.1 in
      let second = node_first other_lines other_details other other_kids s others other_line there_too.0.1 in
      let both =
      one_item (node_of lines details file kids r line) (node_of other_lines other_details other other_kids s other_line) (own_nodes rows) (other_nodes others)
      (sym (ap array_of first) ∙ e ∙ ap array_of second) in
      let one =
      one_node file other kids other_kids (seen r) (seen s) (get_or lines r.line 0) (get_or other_lines s.line 0) (detail_at details (length file.actions) r.line)
      (detail_at other_details (length other.actions) s.line) line other_line both.0 in
      let more = same_nodes rows others there.1 there_too.1 both.1 in
      let id = ap id_or_zero there.0.1 ∙ one.0 ∙ sym (ap id_or_zero there_too.0.1) in
      let below = shown_is file kids r.line line there.0.1 ∙ one.1 ∙ sym (shown_is other other_kids s.line other_line there_too.0.1) in
      (ap₂ (λ n ns. n ∷ ns) id more.0, ap₂ (λ x xs. x ∷ xs) below more.1)

pub json_shows_forests : JsonShowsForests
json_shows_forests caption other_caption lines other_lines details other_details picture other file other_file is are e =
    let own = picture.file.now in
    let own_too = other.file.now in
    let kids = lists_of picture.children.items in
    let kids_too = lists_of other.children.items in
    let all_own = array_of (nodes lines details own kids picture.rows.items) in
    let all_others = array_of (nodes other_lines other_details own_too kids_too other.rows.items) in
    let roots : Some (ids_json own picture.roots.items) ≡ Some (ids_json own_too other.roots.items) = ap (get (codes "roots")) e in
    let all : Some all_own ≡ Some all_others = ap (get (codes "nodes")) e in
    let drawing = subst (λ f. IsDrawing f picture.roots.items kids (seen_all picture.rows.items)) (sym is.file_is) is.drawing in
    let drawing_too = subst (λ f. IsDrawing f other.roots.items kids_too (seen_all other.rows.items)) (sym are.file_is) are.drawing in
    let rows =
    same_nodes lines other_lines details other_details own own_too kids kids_too picture.rows.items other.rows.items (drawing_there own picture.roots.items kids picture.rows.items drawing)
    (drawing_there own_too other.roots.items kids_too other.rows.items drawing_too) (some_same all_own all_others all) in
    (ids_same (id_at own) (id_at own_too) picture.roots.items other.roots.items (some_same (ids_json own picture.roots.items) (ids_json own_too other.roots.items) roots), rows.0, rows.1)
