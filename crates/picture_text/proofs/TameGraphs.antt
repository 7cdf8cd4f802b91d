-- Pictures for graphviz command no terminal.
use Rattle.std.proofs.Common.{◌≡◌, ℕ, ◌||◌, ◌&&◌, ◌==◌, Bool, true, false, cond, codes, List, [], ◌∷◌, ◌++◌, length, map, Option, Some, None, refl}
use Rattle.std.specs.List.{flat_map, list_all}
use Rattle.std.specs.Fmt.{decimal}
use Rattle.htn_model.specs.PlanFile.{PlanFile}
use Rattle.diagnostics.specs.Shown.{shown}
use Rattle.diagnostics.specs.Tame.{is_tame}
use Rattle.plan_text.specs.Forest.{lists_of}
use Rattle.plan_text.specs.Reached.{children_at}
use Rattle.picture_text.specs.declared.caption.Caption.{Caption}
use Rattle.picture_text.specs.declared.caption.Mark.{Mark}
use Rattle.plan_picture.specs.declared.picture.Picture.{Picture}
use Rattle.plan_picture.specs.declared.row.Row.{Row as DeclaredRow}
use Rattle.picture_text.specs.Lines.{Line, action, task, id_of, line_at, id_at}
use Rattle.picture_text.specs.Words.{is_marked}
use Rattle.picture_text.specs.Dot.{escape, quoted, quoted_rest, node_name, words_of, position, method, label_rest, label, colours, node, edge, edges, layout, node_style, edge_style, head, dot_bytes}
use Rattle.picture_text.specs.Tame.{AreTame}
use Rattle.picture_text.proofs.Tamed.{both, decimal_tame, two, each, left, right, words, of_task}

itself : (b : ℕ) → is_tame b ≡ true → is_tame b ≡ true
itself b h = h

-- two parts
join : (xs ys : List ℕ) → AreTame is_tame xs → AreTame is_tame ys → AreTame is_tame (xs ++ ys)
join xs ys p q = two is_tame itself xs ys p q

escape_tame : (b : ℕ) → is_tame b ≡ true → AreTame is_tame (escape b)
escape_tame b h = by (b == 34 || b == 92)
  where
    by : (e : Bool) → AreTame is_tame (cond e (92 ∷ b ∷ []) (b ∷ []))
    by true = both (is_tame 92) (is_tame b && true) refl (both (is_tame b) true h refl)
    by false = both (is_tame b) true h refl

escaped_tame : (bytes : List ℕ) → AreTame is_tame bytes → AreTame is_tame (flat_map escape bytes)
escaped_tame [] h = refl
escaped_tame (b ∷ bytes) h =
    join (escape b) (flat_map escape bytes) (escape_tame b (left is_tame itself (is_tame b) (list_all is_tame bytes) h))
    (escaped_tame bytes (right is_tame itself (is_tame b) (list_all is_tame bytes) h))

shown_tame : (bytes : List ℕ) → AreTame is_tame (map shown bytes)
shown_tame bytes = words is_tame itself bytes

quoted_tame : (bytes : List ℕ) → AreTame is_tame bytes → AreTame is_tame (quoted bytes)
quoted_tame bytes h = join (codes "\"") (quoted_rest bytes) refl (join (flat_map escape bytes) (codes "\"") (escaped_tame bytes h) refl)

name_tame : (id : ℕ) → AreTame is_tame (node_name id)
name_tame id = join (codes "n") (decimal id) refl (decimal_tame id)

line_words_tame : (line : Line) → AreTame is_tame (words_of line)
line_words_tame (action line) = of_task is_tame itself line.name line.arguments
line_words_tame (task line) = of_task is_tame itself line.task line.arguments

position_tame : (number : ℕ) (line : Line) → AreTame is_tame (position number line)
position_tame number (action line) = join (decimal number) (codes "  ") (decimal_tame number) refl
position_tame number (task line) = refl

method_tame : (line : Line) → AreTame is_tame (method line)
method_tame (action line) = refl
method_tame (task line) = join (codes "\\n") (flat_map escape (map shown line.method)) refl (escaped_tame (map shown line.method) (shown_tame line.method))

graph_label_tame : (number : ℕ) (line : Line) → AreTame is_tame (label number line)
graph_label_tame number line =
    join (codes "\"") (label_rest number line) refl
    (join (position number line) (flat_map escape (words_of line) ++ (method line ++ codes "\"")) (position_tame number line)
    (join (flat_map escape (words_of line)) (method line ++ codes "\"") (escaped_tame (words_of line) (line_words_tame line)) (join (method line) (codes "\"") (method_tame line) refl)))

colours_tame : (marked : Bool) (line : Line) → AreTame is_tame (colours marked line)
colours_tame false (action line) = refl
colours_tame true (action line) = refl
colours_tame false (task line) = refl
colours_tame true (task line) = refl

node_tame : (mark : Option Mark) (number : ℕ) (line : Option Line) → AreTame is_tame (node mark number line)
node_tame mark number None = refl
node_tame mark number (Some line) =
    let looks = colours (is_marked mark (id_of line)) line ++ codes "];\n" in
    join (codes "  ") (node_name (id_of line) ++ (codes " [label=" ++ (label number line ++ looks))) refl
    (join (node_name (id_of line)) (codes " [label=" ++ (label number line ++ looks)) (name_tame (id_of line))
    (join (codes " [label=") (label number line ++ looks) refl
    (join (label number line) looks (graph_label_tame number line)
    (join (colours (is_marked mark (id_of line)) line) (codes "];\n") (colours_tame (is_marked mark (id_of line)) line) refl))))

edge_tame : (from : List ℕ) (id : ℕ) → AreTame is_tame from → AreTame is_tame (edge from id)
edge_tame from id h =
    join (codes "  ") (from ++ (codes " -> " ++ (node_name id ++ codes ";\n"))) refl
    (join from (codes " -> " ++ (node_name id ++ codes ";\n")) h
    (join (codes " -> ") (node_name id ++ codes ";\n") refl (join (node_name id) (codes ";\n") (name_tame id) refl)))

edges_tame : (file : PlanFile) (children : List (List ℕ)) (line : ℕ) → AreTame is_tame (edges file children line)
edges_tame file children line =
    each is_tame itself (λ (child : ℕ). edge (node_name (id_at file line)) (id_at file child)) (λ (child : ℕ). edge_tame (node_name (id_at file line)) (id_at file child) (name_tame (id_at file line)))
    (children_at (length file.actions) children line)

head_tame : (problem : List ℕ) → AreTame is_tame problem → AreTame is_tame (head problem)
head_tame problem h =
    let end = codes ", fillcolor=\"#ffffff\"];\n" in
    let root = codes "  root [label=" ++ (quoted problem ++ end) in
    join (codes "digraph ") (quoted problem ++ (codes " {\n" ++ (layout ++ (node_style ++ (edge_style ++ root))))) refl
    (join (quoted problem) (codes " {\n" ++ (layout ++ (node_style ++ (edge_style ++ root)))) (quoted_tame problem h)
    (join (codes " {\n") (layout ++ (node_style ++ (edge_style ++ root))) refl
    (join layout (node_style ++ (edge_style ++ root)) refl
    (join node_style (edge_style ++ root) refl
    (join edge_style root refl (join (codes "  root [label=") (quoted problem ++ end) refl (join (quoted problem) end (quoted_tame problem h) refl)))))))

pub graph_tame : (caption : Caption) (picture : Picture) → AreTame is_tame (dot_bytes caption picture)
graph_tame caption picture =
    let file = picture.file.now in
    let nodes = flat_map (λ (r : DeclaredRow). node caption.mark r.line (line_at file r.line)) picture.rows.items in
    let from_root = flat_map (λ (root : ℕ). edge (codes "root") (id_at file root)) picture.roots.items in
    let below = flat_map (λ (r : DeclaredRow). edges file (lists_of picture.children.items) r.line) picture.rows.items in
    join (head (map shown caption.problem.now)) (nodes ++ (from_root ++ (below ++ codes "}\n"))) (head_tame (map shown caption.problem.now) (shown_tame caption.problem.now))
    (join nodes (from_root ++ (below ++ codes "}\n"))
    (each is_tame itself (λ (r : DeclaredRow). node caption.mark r.line (line_at file r.line)) (λ (r : DeclaredRow). node_tame caption.mark r.line (line_at file r.line)) picture.rows.items)
    (join from_root (below ++ codes "}\n")
    (each is_tame itself (λ (root : ℕ). edge (codes "root") (id_at file root)) (λ (root : ℕ). edge_tame (codes "root") (id_at file root) refl) picture.roots.items)
    (join below (codes "}\n")
    (each is_tame itself (λ (r : DeclaredRow). edges file (lists_of picture.children.items) r.line) (λ (r : DeclaredRow). edges_tame file (lists_of picture.children.items) r.line) picture.rows.items) refl)))
