-- The JSON of a picture has no float, and nests little; words are ASCII.
use Rattle.std.proofs.Common.{◌≡◌, ℕ, zero, suc, ◌<◌, ◌≤◌, ◌||◌, ◌&&◌, Bool, true, false, nat_eq, nat_le, codes, List, [], ◌∷◌, ◌++◌, length, get_or, map, Option, Some, None, refl, sym, ap, ◌∙◌, ⊎_elim, Ordering, Less, Equal, Greater, arith, append-nil}
use Rattle.std.specs.List.{flat_map}
use Rattle.std.proofs.lemmas.Bool.{cases_Bool}
use Rattle.std.proofs.lemmas.Bool.Decides.{nat_tests}
use Rattle.std.proofs.lemmas.List.Sums.{fold-append}
use Rattle.std.proofs.lemmas.Str.{IsUtf8-from_ascii}
use Rattle.std.specs.Str.{IsAscii, IsUtf8}
use Rattle.std.specs.Ordering.{match_ordering}
use Rattle.htn_model.specs.PlanFile.{Word, ActionLine, PlanFile}
use Rattle.diagnostics.specs.Shown.{shown}
use Rattle.serde_json.specs.Data.{Data, Members, member, no_members, put, depth, items_depth, members_depth}
use Rattle.serde_json.specs.View.{items_of}
use Rattle.serde_json.specs.Written.{has_float, items_have_float, members_have_float}
use Rattle.diagnostics.specs.Json.{Named, with_members, object_of, array_of, count}
use Rattle.plan_text.specs.Forest.{lists_of}
use Rattle.plan_text.specs.Reached.{children_at}
use Rattle.picture_text.specs.declared.caption.Caption.{Caption}
use Rattle.plan_picture.specs.declared.picture.Picture.{Picture}
use Rattle.plan_picture.specs.declared.row.Row.{Row as DeclaredRow}
use Rattle.plan_picture.specs.Rows.{Row}
use Rattle.picture_text.specs.declared.detail.Setting.{Setting}
use Rattle.picture_text.specs.declared.detail.Condition.{Condition}
use Rattle.picture_text.specs.declared.detail.Detail.{Detail}
use Rattle.picture_text.specs.Details.{detail_at}
use Rattle.picture_text.specs.Lines.{Line, action, task, id_of, line_at, id_at}
use Rattle.plan_picture.specs.Seen.{seen}
use Rattle.picture_text.specs.Json.{word_json, task_json, ids_json, parent_json, line_members, setting_member, condition_json, condition_members, detail_members, node_json, nodes_json, row_json, caption_members, picture_json}

-- ---- words

shown_ascii : (b : ℕ) → shown b < 128
shown_ascii b = ⊎_elim (λ as_is. rw as_is (grind (arith, nat_tests, as_is))) (λ hidden. rw hidden (omega arith)) (cases_Bool (nat_eq b 9 || (nat_le 32 b && nat_le b 126)))

words_ascii : (bytes : List ℕ) → IsAscii (map shown bytes)
words_ascii [] i = omega arith
words_ascii (b ∷ bytes) zero = shown_ascii b
words_ascii (b ∷ bytes) (suc i) = words_ascii bytes i

pub words_utf8 : (bytes : List ℕ) → IsUtf8 (map shown bytes)
words_utf8 bytes = IsUtf8-from_ascii (map shown bytes) (words_ascii bytes)

-- ---- members

pub members-append : (ms : Members) (xs ys : List Named) → with_members ms (xs ++ ys) ≡ with_members (with_members ms xs) ys
members-append ms xs ys = fold-append _ ms xs ys

-- ---- no float, and little depth

abbrev pub IsPlain : ℕ → Data → Type 0
IsPlain n d = (has_float d ≡ false) × (depth d ≤ n)

abbrev pub ArePlain : ℕ → List Named → Type 0
ArePlain n [] = Unit {0}
ArePlain n (m ∷ ms) = IsPlain n m.1 × ArePlain n ms

abbrev AreMembers : ℕ → Members → Type 0
AreMembers n ms = (members_have_float ms ≡ false) × (members_depth ms ≤ n)

-- items, in turn
abbrev AreItems : ℕ → List Data → Type 0
AreItems n ds = (items_have_float (items_of ds) ≡ false) × (items_depth (items_of ds) ≤ n)

neither : (a b : Bool) → a ≡ false → b ≡ false → (a || b) ≡ false
neither a b f g = rw (f, g) refl

left_of : (a b : Bool) → (a || b) ≡ false → a ≡ false
left_of true b h = absurd (cc)
left_of false b h = refl

right_of : (a b : Bool) → (a || b) ≡ false → b ≡ false
right_of true b h = absurd (cc)
right_of false b h = h

put_at : (n : ℕ) (o : Ordering) (k l : List ℕ) (d e : Data) (ms more : Members) → IsPlain n d → AreMembers n (member l e ms) → AreMembers n more
    → AreMembers n (match_ordering o (member k d (member l e ms)) (member l d ms) (member l e more))
put_at n Less k l d e ms more p q r = (neither (has_float d) _ p.0 q.0, omega arith)
put_at n Equal k l d e ms more p q r = (neither (has_float d) _ p.0 (right_of (has_float e) _ q.0), omega arith)
put_at n Greater k l d e ms more p q r = (neither (has_float e) _ (left_of (has_float e) (members_have_float ms) q.0) r.0, omega arith)

put_plain : (n : ℕ) (k : List ℕ) (d : Data) (ms : Members) → IsPlain n d → AreMembers n ms → AreMembers n (put k d ms)
put_plain n k d no_members p q = (neither (has_float d) false p.0 refl, omega arith)
put_plain n k d (member l e ms) p q =
    put_at n _ k l d e ms (put k d ms) p q (put_plain n k d ms p (right_of (has_float e) _ q.0, omega arith))

with_plain : (n : ℕ) (ms : Members) (more : List Named) → AreMembers n ms → ArePlain n more → AreMembers n (with_members ms more)
with_plain n ms [] q r = q
with_plain n ms (m ∷ more) q r = with_plain n (put m.0 m.1 ms) more (put_plain n m.0 m.1 ms r.0 q) r.1

object_plain : (n : ℕ) (ms : List Named) → ArePlain n ms → IsPlain (suc n) (object_of ms)
object_plain n ms r = let q : AreMembers n (with_members no_members ms) = with_plain n no_members ms (refl, omega arith) r in (q.0, omega (arith, q.1))

items_plain : {X : Type 0} (n : ℕ) (f : X → Data) → ((x : X) → IsPlain n (f x)) → (xs : List X) (ds : List Data) → AreItems n ds → AreItems n (map f xs ++ ds)
items_plain n f each [] ds rest = rest
items_plain n f each (x ∷ xs) ds rest =
    let more = items_plain n f each xs ds rest in
    (neither (has_float (f x)) _ (each x).0 more.0, omega (arith, (each x).1, more.1))

array_plain : {X : Type 0} (n : ℕ) (f : X → Data) → ((x : X) → IsPlain n (f x)) → (xs : List X) → IsPlain (suc n) (array_of (map f xs))
array_plain n f each xs =
    let all = items_plain n f each xs [] (refl, omega arith) in
    let e = append-nil (map f xs) in
    (ap (λ ds. items_have_float (items_of ds)) (sym e) ∙ all.0, omega (arith, all.1, ap (λ ds. items_depth (items_of ds)) e))

-- a string, a number or nothing
leaf : (n : ℕ) → (false ≡ false) × (0 ≤ n)
leaf n = (refl, omega arith)

task_plain : (name : Word) (arguments : List Word) → IsPlain 1 (task_json name arguments)
task_plain name arguments = array_plain 0 word_json (λ (w : Word). leaf 0) (name ∷ arguments)

ids_plain : (file : PlanFile) (lines : List ℕ) → IsPlain 1 (ids_json file lines)
ids_plain file lines = array_plain 0 (λ (line : ℕ). count (id_at file line)) (λ (line : ℕ). leaf 0) lines

parent_plain : (file : PlanFile) (parent : Option ℕ) → IsPlain 1 (parent_json file parent)
parent_plain file None = leaf 1
parent_plain file (Some line) = leaf 1

line_plain : (file : PlanFile) (children : List ℕ) (number : ℕ) (line : Line) → ArePlain 1 (line_members file children number line)
line_plain file children number (action line) = (leaf 1, (task_plain line.name line.arguments, (leaf 1, tt)))
line_plain file children number (task line) = (leaf 1, (task_plain line.task line.arguments, (leaf 1, (ids_plain file children, tt))))

deeper : (m n : ℕ) (d : Data) → m ≤ n → IsPlain m d → IsPlain n d
deeper m n d h p = (p.0, omega (arith, p.1))

settings_plain : (settings : List Setting) → ArePlain 0 (map setting_member settings)
settings_plain [] = tt
settings_plain (setting ∷ settings) = (leaf 0, settings_plain settings)

condition_plain : (condition : Condition) → IsPlain 2 (condition_json condition)
condition_plain condition =
    let literals = array_plain 0 word_json (λ (w : Word). leaf 0) (lists_of condition.literals.items) in
    object_plain 1 ((codes "literals", array_of (map word_json (lists_of condition.literals.items))) ∷ (codes "gap", count condition.gap) ∷ []) (literals, (leaf 1, tt))

-- members at their depth, and more of them
more_plain : (n : ℕ) (ms more : List Named) → ArePlain n ms → ArePlain n more → ArePlain n (ms ++ more)
more_plain n [] more p q = q
more_plain n (m ∷ ms) more p q = (p.0, more_plain n ms more p.1 q)

deeper_members : (m n : ℕ) (ms : List Named) → m ≤ n → ArePlain m ms → ArePlain n ms
deeper_members m n [] h p = tt
deeper_members m n (x ∷ ms) h p = (deeper m n x.1 h p.0, deeper_members m n ms h p.1)

condition_members_plain : (condition : Option Condition) → ArePlain 2 (condition_members condition)
condition_members_plain None = tt
condition_members_plain (Some condition) = (condition_plain condition, tt)

detail_plain : (detail : Option Detail) → ArePlain 2 (detail_members detail)
detail_plain None = tt
detail_plain (Some detail) =
    let settings = object_plain 0 (map setting_member detail.settings.items) (settings_plain detail.settings.items) in
    (deeper 1 2 (object_of (map setting_member detail.settings.items)) (omega arith) settings, condition_members_plain detail.condition)

node_plain : (file : PlanFile) (children : List (List ℕ)) (row : Row) (place : ℕ) (detail : Option Detail) (line : Line) → IsPlain 3 (node_json file children row place detail line)
node_plain file children row place detail line =
    let below = line_members file (children_at (length file.actions) children row.line) row.line line in
    let own = line_plain file (children_at (length file.actions) children row.line) row.line line in
    object_plain 2 ((codes "id", count (id_of line)) ∷ (codes "line", count place) ∷ (codes "parent", parent_json file row.parent) ∷ below ++ detail_members detail)
    (leaf 2, (leaf 2, (deeper 1 2 (parent_json file row.parent) (omega arith) (parent_plain file row.parent), more_plain 2 below (detail_members detail) (deeper_members 1 2 below (omega arith) own) (detail_plain detail))))

nodes_plain : (file : PlanFile) (children : List (List ℕ)) (row : Row) (place : ℕ) (detail : Option Detail) (line : Option Line) (ds : List Data) → AreItems 3 ds
    → AreItems 3 (nodes_json file children row place detail line ++ ds)
nodes_plain file children row place detail None ds rest = rest
nodes_plain file children row place detail (Some line) ds rest =
    let here = node_plain file children row place detail line in
    (neither (has_float (node_json file children row place detail line)) _ here.0 rest.0, omega (arith, here.1, rest.1))

module _ (lines : List ℕ) (details : Option (List Detail)) (file : PlanFile) (children : List (List ℕ)) where
  -- the values of a row
  abbrev values : DeclaredRow → List Data
  values r = row_json lines details file children (seen r)

  all_plain : (rows : List DeclaredRow) → AreItems 3 (flat_map values rows)
  all_plain [] = (refl, omega arith)
  all_plain (r ∷ rows) =
      nodes_plain file children (seen r) (get_or lines r.line 0) (detail_at details (length file.actions) r.line) (line_at file r.line) (flat_map values rows) (all_plain rows)

pub picture_plain : (caption : Caption) (lines : List ℕ) (details : Option (List Detail)) (picture : Picture) → IsPlain 5 (picture_json caption lines details picture)
picture_plain caption lines details picture =
    let file = picture.file.now in
    let kids = lists_of picture.children.items in
    let nodes = flat_map (values lines details file kids) picture.rows.items in
    let last : List Named = (codes "actions", array_of (map (λ (line : ActionLine). count line.id) file.actions)) ∷ (codes "roots", ids_json file picture.roots.items) ∷ (codes "nodes", array_of nodes) ∷ [] in
    let are = all_plain lines details file kids picture.rows.items in
    let actions = array_plain 0 (λ (line : ActionLine). count line.id) (λ (line : ActionLine). leaf 0) file.actions in
    object_plain 4 (caption_members caption ++ last) (
      leaf 4,
      (
        leaf 4,
        (
          leaf 4,
          (
            leaf 4,
            (
              leaf 4,
              (
                deeper 1 4 (array_of (map (λ (line : ActionLine). count line.id) file.actions)) (omega arith) actions,
                (deeper 1 4 (ids_json file picture.roots.items) (omega arith) (ids_plain file picture.roots.items), ((are.0, omega (arith, are.1)), tt)),
              ),
            ),
          ),
        ),
      ),
    )
