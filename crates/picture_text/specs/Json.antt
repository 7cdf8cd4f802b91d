-- The picture as JSON.
use Rattle.std.specs.Prelude.{ℕ, List, [], ◌∷◌, ◌++◌, length, get_or, map, codes, Option, Some, None}
use Rattle.std.specs.List.{flat_map}
use Rattle.htn_model.specs.PlanFile.{Word, PlanFile}
use Rattle.diagnostics.specs.Shown.{shown}
use Rattle.serde_json.specs.Data.{Data, null, string}
use Rattle.serde_json.specs.Written.{compact_text}
use Rattle.diagnostics.specs.Json.{Named, object_of, array_of, count}
use Rattle.plan_text.specs.Forest.{lists_of}
use Rattle.plan_text.specs.Reached.{children_at}
use Rattle.picture_text.specs.declared.caption.Caption.{Caption}
use Rattle.plan_picture.specs.declared.picture.Picture.{Picture}
use Rattle.plan_picture.specs.Rows.{Row}
use Rattle.picture_text.specs.declared.detail.Setting.{Setting}
use Rattle.picture_text.specs.declared.detail.Condition.{Condition}
use Rattle.picture_text.specs.declared.detail.Detail.{Detail}
use Rattle.picture_text.specs.Details.{detail_at}
use Rattle.picture_text.specs.Lines.{Line, action, task, id_of, line_at, id_at}
use Rattle.plan_picture.specs.Seen.{seen}

-- a word, as it is shown
abbrev pub word_json : Word → Data
word_json word = string (map shown word)

-- a name with its arguments
abbrev pub task_json : Word → List Word → Data
task_json name arguments = array_of (map word_json (name ∷ arguments))

-- the ids of lines
abbrev pub ids_json : PlanFile → List ℕ → Data
ids_json file lines = array_of (map (λ line. count (id_at file line)) lines)

-- the id of a line's parent; a root has none
abbrev pub parent_json : PlanFile → Option ℕ → Data
parent_json file None = null
parent_json file (Some parent) = count (id_at file parent)

-- what the line of a row is, whose children these are
abbrev pub line_members : PlanFile → List ℕ → ℕ → Line → List Named
line_members file children number (action line) =
    (codes "kind", string (codes "action")) ∷ (codes "task", task_json line.name line.arguments) ∷ (codes "position", count number) ∷ []
line_members file children number (task line) =
    (codes "kind", string (codes "task")) ∷ (codes "task", task_json line.task line.arguments) ∷ (codes "method", word_json line.method)
    ∷ (codes "children", ids_json file children) ∷ []

-- a parameter and its value
abbrev pub setting_member : Setting → Named
setting_member setting = (map shown setting.name.items, word_json setting.object.items)

-- a precondition: its literals, and how many actions are carried out before it is tested
abbrev pub condition_json : Condition → Data
condition_json condition =
    object_of ((codes "literals", array_of (map word_json (lists_of condition.literals.items))) ∷ (codes "gap", count condition.gap) ∷ [])

-- the precondition of a line's method, if that has one
abbrev pub condition_members : Option Condition → List Named
condition_members None = []
condition_members (Some condition) = (codes "precondition", condition_json condition) ∷ []

-- what a solution says of a line, if anything is known of it
abbrev pub detail_members : Option Detail → List Named
detail_members None = []
detail_members (Some detail) = (codes "parameters", object_of (map setting_member detail.settings.items)) ∷ condition_members detail.condition

-- a line in its place, which stands on some line of the plan's text
abbrev pub node_json : PlanFile → List (List ℕ) → Row → ℕ → Option Detail → Line → Data
node_json file children row place detail line =
    object_of ((codes "id", count (id_of line)) ∷ (codes "line", count place) ∷ (codes "parent", parent_json file row.parent)
    ∷ line_members file (children_at (length file.actions) children row.line) row.line line ++ detail_members detail)

-- the value of a row's line, if there is such a line
abbrev pub nodes_json : PlanFile → List (List ℕ) → Row → ℕ → Option Detail → Option Line → List Data
nodes_json file children row place detail None = []
nodes_json file children row place detail (Some line) = node_json file children row place detail line ∷ []

-- the same, where the lines of the text and the details are those of all lines
abbrev pub row_json : List ℕ → Option (List Detail) → PlanFile → List (List ℕ) → Row → List Data
row_json lines details file children row =
    nodes_json file children row (get_or lines row.line 0) (detail_at details (length file.actions) row.line) (line_at file row.line)

-- the members for the caption of a picture
abbrev pub caption_members : Caption → List Named
caption_members caption =
    (codes "format", string (codes "htnplan-tree")) ∷ (codes "version", count 1) ∷ (codes "domain", string caption.domain.now)
    ∷ (codes "problem", string caption.problem.now) ∷ (codes "verdict", string caption.verdict.now) ∷ []

-- The members for the lines of a picture: the ids of the actions in the order in which they are carried out, the ids of
-- the roots, and the lines from the top down.
abbrev pub lines_members : List ℕ → Option (List Detail) → Picture → List Named
lines_members lines details picture =
    let file = picture.file.now in
    (codes "actions", array_of (map (λ line. count line.id) file.actions)) ∷ (codes "roots", ids_json file picture.roots.items)
    ∷ (codes "nodes", array_of (flat_map (λ r. row_json lines details file (lists_of picture.children.items) (seen r)) picture.rows.items)) ∷ []

-- The whole picture: what it is of, and its lines.
abbrev pub picture_json : Caption → List ℕ → Option (List Detail) → Picture → Data
picture_json caption lines details picture = object_of (caption_members caption ++ lines_members lines details picture)

-- the text of its value, and a line feed
abbrev pub json_bytes : Caption → List ℕ → Option (List Detail) → Picture → List ℕ
json_bytes caption lines details picture = compact_text (picture_json caption lines details picture) ++ 10 ∷ []
