-- Pictures as SVG command no terminal.
use Rattle.std.proofs.Common.{◌≡◌, ℕ, ◌+◌, ◌*◌, ◌==◌, Bool, true, false, nat_eq, cond, codes, List, [], ◌∷◌, ◌++◌, length, map, Option, Some, None, refl}
use Rattle.std.specs.List.{flat_map, list_all}
use Rattle.std.specs.Fmt.{decimal}
use Rattle.htn_model.specs.PlanFile.{PlanFile}
use Rattle.diagnostics.specs.Shown.{shown}
use Rattle.diagnostics.specs.Tame.{is_tame}
use Rattle.plan_picture.specs.declared.picture.Picture.{Picture}
use Rattle.plan_picture.specs.Rows.{Row}
use Rattle.picture_text.specs.declared.caption.Caption.{Caption}
use Rattle.picture_text.specs.declared.caption.Mark.{Mark}
use Rattle.picture_text.specs.declared.detail.Setting.{Setting}
use Rattle.picture_text.specs.declared.detail.Condition.{Condition}
use Rattle.picture_text.specs.declared.detail.Detail.{Detail}
use Rattle.picture_text.specs.Details.{detail_at, settings_of, condition_of, setting_words, condition_words}
use Rattle.picture_text.specs.Dot.{words_of, position}
use Rattle.picture_text.specs.Lines.{Line, action, task, id_of, line_at}
use Rattle.picture_text.specs.Tame.{AreTame}
use Rattle.picture_text.specs.Text.{label, id_text, mark_text, width_of}
use Rattle.picture_text.specs.Words.{task_words, mark_of, is_marked}
use Rattle.picture_text.proofs.Tamed.{both, decimal_tame, two, each, left, right, words, of_task, of_setting, of_condition}
use Rattle.picture_svg.specs.declared.layout.Area.{Area}
use Rattle.picture_svg.specs.declared.layout.Edge.{Edge}
use Rattle.picture_svg.specs.declared.layout.Layout.{Layout}
use Rattle.picture_svg.specs.Escape.{less, greater, ampersand, quote, entity, escape, escaped}
use Rattle.picture_svg.specs.Grid.{rows_of}
use Rattle.picture_svg.specs.Shapes.{attribute, place, size, rectangle, words_rest, words_at, point, bend, path, two_lines, number_at, numbered}
use Rattle.picture_svg.specs.Style.{style}
use Rattle.picture_svg.specs.Svg.{class_of, setting_line, condition_line, detail_lines, known, node_title, shape_in, node_box, node, node_in, nodes, title, opening, head, problem, svg_bytes}

-- tame bytes
abbrev pub Ok : List ℕ → Type 0
Ok bytes = AreTame is_tame bytes

itself : (b : ℕ) → is_tame b ≡ true → is_tame b ≡ true
itself b h = h

-- two parts
join : (xs ys : List ℕ) → Ok xs → Ok ys → Ok (xs ++ ys)
join xs ys p q = two is_tame itself xs ys p q

shown_tame : (bytes : List ℕ) → Ok (map shown bytes)
shown_tame bytes = words is_tame itself bytes

byte_tame : (p q r s : Bool) (b : ℕ) → is_tame b ≡ true → Ok (cond p (entity less) (cond q (entity greater) (cond r (entity ampersand) (cond s (entity quote) (b ∷ [])))))
byte_tame true q r s b h = refl
byte_tame false true r s b h = refl
byte_tame false false true s b h = refl
byte_tame false false false true b h = refl
byte_tame false false false false b h = both (is_tame b) true h refl

escaped_tame : (bytes : List ℕ) → Ok bytes → Ok (escaped bytes)
escaped_tame [] h = refl
escaped_tame (b ∷ bytes) h =
    join (escape b) (escaped bytes) (byte_tame (b == 60) (b == 62) (b == 38) (b == 34) b (left is_tame itself (is_tame b) (list_all is_tame bytes) h))
    (escaped_tame bytes (right is_tame itself (is_tame b) (list_all is_tame bytes) h))

-- ## Elements

attribute_tame : (name : List ℕ) (value : ℕ) → Ok name → Ok (attribute name value)
attribute_tame name value h = join name (decimal value ++ codes "\"") h (join (decimal value) (codes "\"") (decimal_tame value) refl)

place_tame : (x y : ℕ) → Ok (place x y)
place_tame x y = join (attribute (codes " x=\"") x) (attribute (codes " y=\"") y) (attribute_tame (codes " x=\"") x refl) (attribute_tame (codes " y=\"") y refl)

size_tame : (w h : ℕ) → Ok (size w h)
size_tame w h = join (attribute (codes " width=\"") w) (attribute (codes " height=\"") h) (attribute_tame (codes " width=\"") w refl) (attribute_tame (codes " height=\"") h refl)

rectangle_tame : (class : List ℕ) (a : Area) (radius : ℕ) → Ok class → Ok (rectangle class a radius)
rectangle_tame class a radius h =
    let end = attribute (codes " rx=\"") radius ++ codes "/>\n" in
    let rest = place a.x a.y ++ (size a.width a.height ++ end) in
    join (codes "<rect class=\"") (class ++ (codes "\"" ++ rest)) refl
    (join class (codes "\"" ++ rest) h
    (join (codes "\"") rest refl
    (join (place a.x a.y) (size a.width a.height ++ end) (place_tame a.x a.y)
    (join (size a.width a.height) end (size_tame a.width a.height)
    (join (attribute (codes " rx=\"") radius) (codes "/>\n") (attribute_tame (codes " rx=\"") radius refl) refl)))))

rest_tame : (unit : ℕ) (bytes : List ℕ) → Ok bytes → Ok (words_rest unit bytes)
rest_tame unit bytes h =
    let end = escaped bytes ++ codes "</text>\n" in
    join (attribute (codes " textLength=\"") (unit * length bytes)) (codes " lengthAdjust=\"spacingAndGlyphs\">" ++ end) (attribute_tame (codes " textLength=\"") (unit * length bytes) refl)
    (join (codes " lengthAdjust=\"spacingAndGlyphs\">") end refl (join (escaped bytes) (codes "</text>\n") (escaped_tame bytes h) refl))

words_tame : (class : List ℕ) (x y unit : ℕ) (bytes : List ℕ) → Ok class → Ok bytes → Ok (words_at class x y unit bytes)
words_tame class x y unit bytes c h =
    let end = place x y ++ words_rest unit bytes in
    join (codes "<text class=\"") (class ++ (codes "\"" ++ end)) refl
    (join class (codes "\"" ++ end) c (join (codes "\"") end refl (join (place x y) (words_rest unit bytes) (place_tame x y) (rest_tame unit bytes h))))

point_tame : (x y : ℕ) → Ok (point x y)
point_tame x y = join (decimal x) (codes " " ++ decimal y) (decimal_tame x) (join (codes " ") (decimal y) refl (decimal_tame y))

bend_tame : (e : Edge) → Ok (bend e)
bend_tame e =
    let end = point (e.from_x + 34) e.to_y in
    let next = point (e.from_x + 17) e.to_y in
    join (point (e.from_x + 17) e.from_y) (codes " " ++ (next ++ (codes " " ++ end))) (point_tame (e.from_x + 17) e.from_y)
    (join (codes " ") (next ++ (codes " " ++ end)) refl
    (join next (codes " " ++ end) (point_tame (e.from_x + 17) e.to_y) (join (codes " ") end refl (point_tame (e.from_x + 34) e.to_y))))

path_tame : (e : Edge) → Ok (path e)
path_tame e =
    let end = decimal e.to_x ++ codes "\"/>\n" in
    let rest = bend e ++ (codes "H" ++ end) in
    join (codes "<path d=\"M") (point e.from_x e.from_y ++ (codes "C" ++ rest)) refl
    (join (point e.from_x e.from_y) (codes "C" ++ rest) (point_tame e.from_x e.from_y)
    (join (codes "C") rest refl (join (bend e) (codes "H" ++ end) (bend_tame e) (join (codes "H") end refl (join (decimal e.to_x) (codes "\"/>\n") (decimal_tame e.to_x) refl)))))

lines_tame : (class : List ℕ) (a : Area) (upper lower : List ℕ) → Ok class → Ok upper → Ok lower → Ok (two_lines class a upper lower)
lines_tame class a upper lower c u l =
    let first = words_at (codes "n") (a.x + 10) (a.y + 15) 7 upper in
    let second = words_at (codes "m") (a.x + 10) (a.y + 28) 6 lower in
    join (rectangle class a 6) (first ++ second) (rectangle_tame class a 6 c)
    (join first second (words_tame (codes "n") (a.x + 10) (a.y + 15) 7 upper refl u) (words_tame (codes "m") (a.x + 10) (a.y + 28) 6 lower refl l))

number_tame : (x y n : ℕ) → Ok (number_at x y n)
number_tame x y n =
    let end = decimal n ++ codes "</text>\n" in
    join (codes "<text class=\"no\"") (place x y ++ (codes ">" ++ end)) refl
    (join (place x y) (codes ">" ++ end) (place_tame x y) (join (codes ">") end refl (join (decimal n) (codes "</text>\n") (decimal_tame n) refl)))

numbered_tame : (class : List ℕ) (a : Area) (digits n : ℕ) (bytes : List ℕ) → Ok class → Ok bytes → Ok (numbered class a digits n bytes)
numbered_tame class a digits n bytes c h =
    let end = 7 * digits in
    let first = number_at (a.x + (12 + end)) (a.y + 16) n in
    let second = words_at (codes "a") (a.x + (20 + end)) (a.y + 16) 7 bytes in
    join (rectangle class a 12) (first ++ second) (rectangle_tame class a 12 c)
    (join first second (number_tame (a.x + (12 + end)) (a.y + 16) n) (words_tame (codes "a") (a.x + (20 + end)) (a.y + 16) 7 bytes refl h))

-- ## Nodes

class_tame : (marked : Bool) (line : Line) → Ok (class_of marked line)
class_tame false (action line) = refl
class_tame true (action line) = refl
class_tame false (task line) = refl
class_tame true (task line) = refl

line_words_tame : (line : Line) → Ok (words_of line)
line_words_tame (action line) = of_task is_tame itself line.name line.arguments
line_words_tame (task line) = of_task is_tame itself line.task line.arguments

id_tame : (id : ℕ) → Ok (id_text id)
id_tame id = join (codes "  #") (decimal id) refl (decimal_tame id)

own_id : (b : Bool) (id : ℕ) → Ok (cond b [] (id_text id))
own_id true id = refl
own_id false id = id_tame id

label_tame : (number : ℕ) (line : Line) → Ok (label number [] line)
label_tame number (action line) =
    join (task_words line.name line.arguments) (cond (nat_eq line.id number) [] (id_text line.id)) (of_task is_tame itself line.name line.arguments) (own_id (nat_eq line.id number) line.id)
label_tame number (task line) =
    let end = map shown line.method ++ id_text line.id in
    join (task_words line.task line.arguments) (codes " -> " ++ end) (of_task is_tame itself line.task line.arguments)
    (join (codes " -> ") end refl (join (map shown line.method) (id_text line.id) (shown_tame line.method) (id_tame line.id)))

position_tame : (number : ℕ) (line : Line) → Ok (position number line)
position_tame number (action line) = join (decimal number) (codes "  ") (decimal_tame number) refl
position_tame number (task line) = refl

mark_tame : (mark : Option Mark) → Ok (mark_text mark)
mark_tame None = refl
mark_tame (Some m) = join (codes "  <- ") (map shown m.cause.now) refl (shown_tame m.cause.now)

setting_tame : (setting : Setting) → Ok (setting_line setting)
setting_tame setting = join (codes "\n") (setting_words (codes " = ") setting) refl (of_setting is_tame itself (codes " = ") setting refl)

condition_tame : (condition : Option Condition) → Ok (condition_line condition)
condition_tame None = refl
condition_tame (Some condition) = join (codes "\nprecondition: ") (condition_words condition) refl (of_condition is_tame itself condition)

detail_tame : (detail : Option Detail) → Ok (detail_lines detail)
detail_tame detail =
    join (flat_map setting_line (settings_of detail)) (condition_line (condition_of detail)) (each is_tame itself setting_line setting_tame (settings_of detail)) (condition_tame (condition_of detail))

known_tame : (mark : Option Mark) (number : ℕ) (detail : Option Detail) (line : Line) → Ok (known mark number detail line)
known_tame mark number detail line =
    let flag = mark_text (mark_of mark (id_of line)) in
    let end = flag ++ detail_lines detail in
    join (position number line) (label number [] line ++ end) (position_tame number line)
    (join (label number [] line) end (label_tame number line) (join flag (detail_lines detail) (mark_tame (mark_of mark (id_of line))) (detail_tame detail)))

title_tame : (mark : Option Mark) (number : ℕ) (detail : Option Detail) (line : Line) → Ok (node_title mark number detail line)
title_tame mark number detail line =
    let bytes = known mark number detail line in
    join (codes "<g><title>") (escaped bytes ++ codes "</title>\n") refl (join (escaped bytes) (codes "</title>\n") (escaped_tame bytes (known_tame mark number detail line)) refl)

shape_tame : (class : List ℕ) (digits number : ℕ) (a : Area) (line : Line) → Ok class → Ok (shape_in class digits number a line)
shape_tame class digits number a (action line) c = numbered_tame class a digits number (words_of (action line)) c (line_words_tame (action line))
shape_tame class digits number a (task line) c = lines_tame class a (words_of (task line)) (map shown line.method) c (line_words_tame (task line)) (shown_tame line.method)

box_tame : (mark : Option Mark) (digits number : ℕ) (a : Area) (line : Line) → Ok (node_box mark digits number a line)
box_tame mark digits number a line =
    let class = class_of (is_marked mark (id_of line)) line in
    join (shape_in class digits number a line) (codes "</g>\n") (shape_tame class digits number a line (class_tame (is_marked mark (id_of line)) line)) refl

node_tame : (mark : Option Mark) (digits number : ℕ) (a : Area) (detail : Option Detail) (line : Option Line) → Ok (node mark digits number a detail line)
node_tame mark digits number a detail None = refl
node_tame mark digits number a detail (Some line) =
    join (node_title mark number detail line) (node_box mark digits number a line) (title_tame mark number detail line) (box_tame mark digits number a line)

nodes_tame : (mark : Option Mark) (details : Option (List Detail)) (file : PlanFile) (rows : List Row) (areas : List Area) → Ok (nodes mark details file rows areas)
nodes_tame mark details file [] areas = refl
nodes_tame mark details file (row ∷ rows) [] = refl
nodes_tame mark details file (row ∷ rows) (a ∷ areas) =
    join (node_in mark details file row.line (Some a)) (nodes mark details file rows areas)
    (node_tame mark (width_of file) row.line a (detail_at details (length file.actions) row.line) (line_at file row.line)) (nodes_tame mark details file rows areas)

-- ## All of it

opening_tame : (w h : ℕ) → Ok (opening w h)
opening_tame w h =
    let end = decimal h ++ codes "\" role=\"img\">\n" in
    let rest = decimal w ++ (codes " " ++ end) in
    join (codes "<svg xmlns=\"http://www.w3.org/2000/svg\" class=\"t\"") (size w h ++ (codes " viewBox=\"0 0 " ++ rest)) refl
    (join (size w h) (codes " viewBox=\"0 0 " ++ rest) (size_tame w h)
    (join (codes " viewBox=\"0 0 ") rest refl
    (join (decimal w) (codes " " ++ end) (decimal_tame w) (join (codes " ") end refl (join (decimal h) (codes "\" role=\"img\">\n") (decimal_tame h) refl)))))

whole_title_tame : (caption : Caption) → Ok (title caption)
whole_title_tame caption =
    let verdict = map shown caption.verdict.now in
    join (map shown caption.problem.now) (codes ": " ++ verdict) (shown_tame caption.problem.now) (join (codes ": ") verdict refl (shown_tame caption.verdict.now))

head_tame : (caption : Caption) (layout : Layout) → Ok (head caption layout)
head_tame caption layout =
    let ground = codes "<rect class=\"bg\" width=\"100%\" height=\"100%\"/>\n" in
    let end = codes "</title>\n" ++ (style ++ ground) in
    join (opening layout.width layout.height) (codes "<title>" ++ (escaped (title caption) ++ end)) (opening_tame layout.width layout.height)
    (join (codes "<title>") (escaped (title caption) ++ end) refl
    (join (escaped (title caption)) end (escaped_tame (title caption) (whole_title_tame caption)) (join (codes "</title>\n") (style ++ ground) refl (join style ground refl refl))))

problem_tame : (caption : Caption) (a : Area) → Ok (problem caption a)
problem_tame caption a =
    lines_tame (codes "root") a (map shown caption.problem.now) (map shown caption.verdict.now) refl (shown_tame caption.problem.now) (shown_tame caption.verdict.now)

pub svg_tame : (caption : Caption) (details : Option (List Detail)) (picture : Picture) (layout : Layout) → Ok (svg_bytes caption details picture layout)
svg_tame caption details picture layout =
    let edges = flat_map path layout.edges.items in
    let all = nodes caption.mark details picture.file.now (rows_of picture) layout.boxes.items in
    let end = codes "</svg>\n" in
    join (head caption layout) (edges ++ (problem caption layout.problem ++ (all ++ end))) (head_tame caption layout)
    (join edges (problem caption layout.problem ++ (all ++ end)) (each is_tame itself path path_tame layout.edges.items)
    (join (problem caption layout.problem) (all ++ end) (problem_tame caption layout.problem)
    (join all end (nodes_tame caption.mark details picture.file.now (rows_of picture) layout.boxes.items) refl)))
