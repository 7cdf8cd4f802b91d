-- The picture in the language of graphviz.
use Rattle.std.specs.Prelude.{ℕ, Bool, true, false, ◌||◌, ◌==◌, if◌then◌else◌, List, [], ◌∷◌, ◌++◌, length, map, codes, Option, Some, None}
use Rattle.std.specs.List.{flat_map}
use Rattle.std.specs.Fmt.{decimal}
use Rattle.htn_model.specs.PlanFile.{PlanFile}
use Rattle.diagnostics.specs.Shown.{shown}
use Rattle.plan_text.specs.Forest.{lists_of}
use Rattle.plan_text.specs.Reached.{children_at}
use Rattle.picture_text.specs.declared.caption.Caption.{Caption}
use Rattle.picture_text.specs.declared.caption.Mark.{Mark}
use Rattle.plan_picture.specs.declared.picture.Picture.{Picture}
use Rattle.picture_text.specs.Lines.{Line, action, task, id_of, line_at, id_at}
use Rattle.picture_text.specs.Words.{task_words, is_marked}

-- a byte of a label: as it is shown, a quote and a backslash after a backslash
abbrev pub escape : ℕ → List ℕ
escape b = if b == 34 || b == 92 then 92 ∷ b ∷ [] else b ∷ []

-- words in quotes, from the first quote on
abbrev pub quoted_rest : List ℕ → List ℕ
quoted_rest words = flat_map escape words ++ codes "\""

-- words in quotes
abbrev pub quoted : List ℕ → List ℕ
quoted words = codes "\"" ++ quoted_rest words

-- the name of a line's node
abbrev pub node_name : ℕ → List ℕ
node_name id = codes "n" ++ decimal id

-- the words of a line
abbrev pub words_of : Line → List ℕ
words_of (action line) = task_words line.name line.arguments
words_of (task line) = task_words line.task line.arguments

-- before them the position of an action
abbrev pub position : ℕ → Line → List ℕ
position number (action line) = decimal number ++ codes "  "
position number (task line) = []

-- below them the method of a task
abbrev pub method : Line → List ℕ
method (action line) = []
method (task line) = codes "\\n" ++ flat_map escape (map shown line.method)

-- the label of a line, from its first quote on
abbrev pub label_rest : ℕ → Line → List ℕ
label_rest number line = position number line ++ (flat_map escape (words_of line) ++ (method line ++ codes "\""))

-- the label of a line
abbrev pub label : ℕ → Line → List ℕ
label number line = codes "\"" ++ label_rest number line

-- its colours
abbrev pub colours : Bool → Line → List ℕ
colours false (action line) = codes ", fillcolor=\"#ecfdf5\", color=\"#34d399\""
colours true (action line) = codes ", fillcolor=\"#fee2e2\", color=\"#dc2626\""
colours false (task line) = []
colours true (task line) = codes ", color=\"#dc2626\""

-- the node of a row, if there is such a line
abbrev pub node : Option Mark → ℕ → Option Line → List ℕ
node mark number None = []
node mark number (Some line) =
    codes "  " ++ (node_name (id_of line) ++ (codes " [label=" ++ (label number line ++ (colours (is_marked mark (id_of line)) line ++ codes "];\n"))))

-- an edge to a line
abbrev pub edge : List ℕ → ℕ → List ℕ
edge from id = codes "  " ++ (from ++ (codes " -> " ++ (node_name id ++ codes ";\n")))

-- the edges from a line to its children
abbrev pub edges : PlanFile → List (List ℕ) → ℕ → List ℕ
edges file children line = flat_map (λ child. edge (node_name (id_at file line)) (id_at file child)) (children_at (length file.actions) children line)

-- how all of it is laid out
abbrev pub layout : List ℕ
layout = codes "  rankdir=LR; ordering=out; nodesep=0.15; ranksep=0.5;\n"

-- how nodes look
abbrev pub node_style : List ℕ
node_style =
    codes "  node [shape=box, style=\"rounded,filled\", fillcolor=\"#eef2ff\", color=\"#c7d2fe\", "
    ++ codes "fontname=\"Helvetica\", fontsize=11, height=0.3];\n"

-- how edges look
abbrev pub edge_style : List ℕ
edge_style = codes "  edge [color=\"#94a3b8\", arrowsize=0.5];\n"

-- the title, the looks, and the node of the problem
abbrev pub head : List ℕ → List ℕ
head problem =
    codes "digraph " ++ (quoted problem ++ (codes " {\n" ++ (layout ++ (node_style ++ (edge_style ++ (codes "  root [label=" ++ (quoted problem ++ codes ", fillcolor=\"#ffffff\"];\n")))))))

-- A node for the problem and one for each row. An edge from the problem to each root, and from each row to its children.
abbrev pub dot_bytes : Caption → Picture → List ℕ
dot_bytes caption picture =
    let file = picture.file.now in
    head (map shown caption.problem.now) ++ (flat_map (λ r. node caption.mark r.line (line_at file r.line)) picture.rows.items
    ++ (flat_map (λ root. edge (codes "root") (id_at file root)) picture.roots.items
    ++ (flat_map (λ r. edges file (lists_of picture.children.items) r.line) picture.rows.items ++ codes "}\n")))
