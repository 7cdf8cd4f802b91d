-- A row of the outline.
use Rattle.std.specs.Prelude.{ℕ, ◌-◌, Bool, true, false, min, if◌then◌else◌, List, [], ◌++◌, codes, Option, Some, None}
use Rattle.picture_text.specs.declared.caption.Mark.{Mark}
use Rattle.plan_picture.specs.Rows.{Row}
use Rattle.picture_text.specs.declared.detail.Detail.{Detail}
use Rattle.picture_text.specs.Details.{condition_of}
use Rattle.picture_text.specs.Lines.{Line, id_of}
use Rattle.picture_text.specs.Words.{mark_of, is_marked}
use Rattle.picture_svg.specs.Svg.{class_of}
use Rattle.picture_html.specs.declared.bars.Bar.{Bar}
use Rattle.picture_html.specs.Bars.{max_levels}
use Rattle.picture_html.specs.Label.{between, label}
use Rattle.picture_html.specs.Time.{time}
use Rattle.picture_html.specs.Tip.{tip}

-- the indent of a row that is below some lines, of which it shows at most 40
abbrev pub level : ℕ → ℕ
level depth = min depth max_levels

-- what a row begins with: one that folds is the summary of what it folds
abbrev pub begin : Bool → ℕ → List ℕ
begin true depth = between (codes "<details open style=\"--d:") (level depth) (codes "\">\n<summary")
begin false depth = between (codes "<div style=\"--d:") (level depth) (codes "\"")

-- the class of a row; the one that is marked is named, for a link to it
abbrev pub row_class : Bool → Line → List ℕ
row_class marked line = codes " class=\"row " ++ (class_of marked line ++ (if marked then codes "\" id=\"marked\">" else codes "\">"))

-- what it ends with
abbrev pub end : Bool → List ℕ
end true = codes "</summary>\n"
end false = codes "</div>\n"

-- the row of a line, if there is such a line, with its bars and with what a solution says of it
abbrev pub row_text : Option Mark → Bool → Row → Option Line → List Bar → Option Detail → List ℕ
row_text mark folds row None bars detail = []
row_text mark folds row (Some line) bars detail =
    begin folds row.depth ++ (row_class (is_marked mark (id_of line)) line
    ++ (label (mark_of mark (id_of line)) (row.depth - max_levels) row.line line ++ (time bars (condition_of detail) ++ (tip detail ++ end folds))))
