-- The picture as SVG.
use Rattle.std.specs.Prelude.{◌≡◌, ℕ, Bool, true, false, List, [], ◌∷◌, ◌++◌, length, map, codes, Option, Some, None}
use Rattle.std.specs.List.{flat_map}
use Rattle.std.specs.Fmt.{decimal}
use Rattle.htn_model.specs.PlanFile.{PlanFile}
use Rattle.diagnostics.specs.Shown.{shown}
use Rattle.picture_text.specs.declared.caption.Caption.{Caption}
use Rattle.picture_text.specs.declared.caption.Mark.{Mark}
use Rattle.plan_picture.specs.declared.picture.Picture.{Picture}
use Rattle.plan_picture.specs.Rows.{Row}
use Rattle.picture_text.specs.declared.detail.Setting.{Setting}
use Rattle.picture_text.specs.declared.detail.Condition.{Condition}
use Rattle.picture_text.specs.declared.detail.Detail.{Detail}
use Rattle.picture_text.specs.Details.{detail_at, settings_of, condition_of, setting_words, condition_words}
use Rattle.picture_text.specs.Lines.{Line, action, task, id_of, line_at}
use Rattle.picture_text.specs.Words.{mark_of, is_marked}
use Rattle.picture_text.specs.Dot.{words_of, position}
use Rattle.picture_text.specs.Text.{label, mark_text, width_of}
use Rattle.picture_svg.specs.declared.layout.Area.{Area}
use Rattle.picture_svg.specs.declared.layout.Layout.{Layout}
use Rattle.picture_svg.specs.Escape.{escaped}
use Rattle.picture_svg.specs.Grid.{rows_of}
use Rattle.picture_svg.specs.Layout.{IsLayoutOf}
use Rattle.picture_svg.specs.Shapes.{size, path, two_lines, numbered}
use Rattle.picture_svg.specs.Style.{style}

-- the class of a line's box
abbrev pub class_of : Bool → Line → List ℕ
class_of false (action line) = codes "act"
class_of true (action line) = codes "act bad"
class_of false (task line) = codes "task"
class_of true (task line) = codes "task bad"

-- a parameter and its value, on a line of their own
abbrev pub setting_line : Setting → List ℕ
setting_line setting = 10 ∷ setting_words (codes " = ") setting

-- the precondition of a line's method and when it is tested, if it has one, on a line of its own
abbrev pub condition_line : Option Condition → List ℕ
condition_line None = []
condition_line (Some condition) = codes "\nprecondition: " ++ condition_words condition

-- what a solution says of a line
abbrev pub detail_lines : Option Detail → List ℕ
detail_lines detail = flat_map setting_line (settings_of detail) ++ condition_line (condition_of detail)

-- What is known of a line: the position of an action, its words, its method and its id, and what is wrong there; and what
-- a solution says of it.
abbrev pub known : Option Mark → ℕ → Option Detail → Line → List ℕ
known mark number detail line = position number line ++ (label number [] line ++ (mark_text (mark_of mark (id_of line)) ++ detail_lines detail))

-- the title of a line's node
abbrev pub node_title : Option Mark → ℕ → Option Detail → Line → List ℕ
node_title mark number detail line = codes "<g><title>" ++ (escaped (known mark number detail line) ++ codes "</title>\n")

-- the box of a line, of some class
abbrev pub shape_in : List ℕ → ℕ → ℕ → Area → Line → List ℕ
shape_in class digits number area (action line) = numbered class area digits number (words_of (action line))
shape_in class digits number area (task line) = two_lines class area (words_of (task line)) (map shown line.method)

-- the box of a line, and the end of its node
abbrev pub node_box : Option Mark → ℕ → ℕ → Area → Line → List ℕ
node_box mark digits number area line = shape_in (class_of (is_marked mark (id_of line)) line) digits number area line ++ codes "</g>\n"

-- the node of a line, if there is one
abbrev pub node : Option Mark → ℕ → ℕ → Area → Option Detail → Option Line → List ℕ
node mark digits number area detail None = []
node mark digits number area detail (Some line) = node_title mark number detail line ++ node_box mark digits number area line

-- the node of the line with a number in its box, if it has one
abbrev pub node_in : Option Mark → Option (List Detail) → PlanFile → ℕ → Option Area → List ℕ
node_in mark details file number None = []
node_in mark details file number (Some area) = node mark (width_of file) number area (detail_at details (length file.actions) number) (line_at file number)

-- those of rows in their boxes
abbrev pub nodes : Option Mark → Option (List Detail) → PlanFile → List Row → List Area → List ℕ
nodes mark details file [] areas = []
nodes mark details file (row ∷ rows) [] = []
nodes mark details file (row ∷ rows) (area ∷ areas) = node_in mark details file row.line (Some area) ++ nodes mark details file rows areas

-- the problem and the verdict
abbrev pub title : Caption → List ℕ
title caption = map shown caption.problem.now ++ (codes ": " ++ map shown caption.verdict.now)

-- the whole's size
abbrev pub opening : ℕ → ℕ → List ℕ
opening width height =
    codes "<svg xmlns=\"http://www.w3.org/2000/svg\" class=\"t\"" ++ (size width height ++ (codes " viewBox=\"0 0 " ++ (decimal width ++ (codes " " ++ (decimal height ++ codes "\" role=\"img\">\n")))))

-- its title, its looks and its ground
abbrev pub head : Caption → Layout → List ℕ
head caption layout =
    opening layout.width layout.height ++ (codes "<title>" ++ (escaped (title caption) ++ (codes "</title>\n" ++ (style ++ codes "<rect class=\"bg\" width=\"100%\" height=\"100%\"/>\n"))))

-- the box of the problem, with the verdict below its name
abbrev pub problem : Caption → Area → List ℕ
problem caption area = two_lines (codes "root") area (map shown caption.problem.now) (map shown caption.verdict.now)

-- The whole: edges first, and then the boxes.
abbrev pub svg_bytes : Caption → Option (List Detail) → Picture → Layout → List ℕ
svg_bytes caption details picture layout =
    head caption layout ++ (flat_map path layout.edges.items ++ (problem caption layout.problem
    ++ (nodes caption.mark details picture.file.now (rows_of picture) layout.boxes.items ++ codes "</svg>\n")))

-- the picture as it is laid out
pub record IsSvgOf (caption : Caption) (details : Option (List Detail)) (picture : Picture) (bytes : List ℕ) : Type 0 where
  pub layout : Layout
  pub is_layout : IsLayoutOf caption picture layout
  pub bytes_are : bytes ≡ svg_bytes caption details picture layout
