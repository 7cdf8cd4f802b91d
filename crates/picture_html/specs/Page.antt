-- The page.
use Rattle.std.specs.Prelude.{◌≡◌, ℕ, ◌≤◌, ◌<◌, Bool, true, false, max, if◌then◌else◌, List, [], ◌∷◌, ◌++◌, length, codes, Option, Some, None, option_map}
use Rattle.std.specs.Str.{bytes_eq}
use Rattle.htn_model.specs.PlanFile.{PlanFile}
use Rattle.picture_text.specs.declared.caption.Caption.{Caption}
use Rattle.picture_text.specs.declared.caption.Mark.{Mark}
use Rattle.picture_text.specs.declared.detail.Detail.{Detail}
use Rattle.plan_picture.specs.declared.picture.Picture.{Picture}
use Rattle.picture_svg.specs.Grid.{rows_of, actions_of}
use Rattle.picture_svg.specs.Svg.{IsSvgOf}
use Rattle.picture_html.specs.declared.bars.Bar.{Bar}
use Rattle.picture_html.specs.declared.remarks.Remarks.{Remarks}
use Rattle.picture_html.specs.Bars.{AreAllBars}
use Rattle.picture_html.specs.Changes.{run}
use Rattle.picture_html.specs.Label.{between, words_between}
use Rattle.picture_html.specs.Outline.{line_row, outline}
use Rattle.picture_html.specs.Ruler.{step_of, ticks}
use Rattle.picture_html.specs.Style.{style, more_style}
use Rattle.picture_html.specs.Tip.{are_tested}
use Rattle.picture_html.specs.Why.{why}

-- the title: the problem and the verdict
abbrev pub title : Caption → List ℕ
title caption = words_between (codes "<title>") caption.problem.now (codes ": ") ++ words_between (codes "") caption.verdict.now (codes "</title>\n")

-- what a page begins with
abbrev pub begin : List ℕ
begin =
    codes "<!doctype html>\n<html lang=\"en\">\n<head>\n<meta charset=\"utf-8\">\n"
    ++ codes "<meta name=\"viewport\" content=\"width=device-width,initial-scale=1\">\n"

-- all that stands before what is seen
abbrev pub head : Caption → Option (List Detail) → List ℕ
head caption details = begin ++ (title caption ++ (style ++ (more_style details ++ codes "</head>\n<body>\n<main>\n")))

-- a verdict that names no line
abbrev pub unmarked : List ℕ → List ℕ
unmarked words =
    if bytes_eq words (codes "valid") then words_between (codes "<span class=\"verdict\">") words (codes "</span>\n")
    else words_between (codes "<span class=\"verdict no\">") words (codes "</span>\n")

-- the verdict, which leads to the line that it names
abbrev pub verdict : Option Mark → List ℕ → List ℕ
verdict (Some mark) words = words_between (codes "<a class=\"verdict no\" href=\"#marked\">") words (codes "</a>\n")
verdict None words = unmarked words

-- the domain, and how many lines there are
abbrev pub counts : Caption → PlanFile → List ℕ
counts caption file =
    words_between (codes "<p>domain <b>") caption.domain.now (codes "</b> &middot; actions <b>")
    ++ (between (codes "") (length file.actions) (codes "</b> &middot; tasks <b>") ++ between (codes "") (length file.decompositions) (codes "</b></p>\n"))

-- the problem, the verdict and the counts
abbrev pub header : Caption → PlanFile → List ℕ
header caption file =
    words_between (codes "<header>\n<h1>") caption.problem.now (codes "</h1>\n") ++ (verdict caption.mark caption.verdict.now ++ (counts caption file ++ codes "</header>\n"))

-- how many columns the time line has, and how far its numbers are from one another
abbrev pub columns : ℕ → List ℕ
columns actions = between (codes "<h2>Decomposition and time</h2>\n<div class=\"chart\" style=\"--n:") (max 1 actions) (codes ";--s:") ++ between (codes "") (step_of actions) (codes "\">\n")

-- its numbers
abbrev pub ruler : ℕ → List ℕ
ruler actions =
    codes "<div class=\"row head\"><span class=\"label\">task and method</span>"
    ++ (codes "<span class=\"time\">" ++ (ticks actions ++ codes "</span></div>\n"))

-- what the sign of a test means, if there is one
abbrev pub test_key : Bool → List ℕ
test_key true = codes "<span><i class=\"p\"></i>where a method's precondition is tested</span>"
test_key false = []

-- what stands below the chart
abbrev pub key : Bool → List ℕ
key tested =
    codes "</div>\n<p class=\"key\"><span><i class=\"a\"></i>action</span>"
    ++ (codes "<span><i></i>all actions of a task</span>" ++ (test_key tested ++ codes "</p>\n"))

-- the outline and the time line, with the bars of each line
abbrev pub chart : Caption → Option (List Detail) → Picture → (ℕ → List Bar) → List ℕ
chart caption details picture bars =
    columns (actions_of picture) ++ (ruler (actions_of picture)
    ++ (outline (line_row caption.mark picture.file.now details bars) (rows_of picture) ++ key (are_tested details)))

-- the tree, where it is drawn
abbrev pub tree : List ℕ → List ℕ
tree [] = []
tree (b ∷ bytes) = codes "<h2>Tree</h2>\n<div class=\"tree\">\n" ++ ((b ∷ bytes) ++ codes "</div>\n")

-- what stands above the chart: the header, and why the plan has its verdict
abbrev pub above : Caption → Remarks → PlanFile → List ℕ
above caption remarks file = header caption file ++ why caption.verdict.now remarks.why.now

-- what stands below it: the tree, the run, and the end of the page
abbrev pub below : Remarks → PlanFile → List ℕ → List ℕ
below remarks file svg = tree svg ++ (run file (option_map (λ r. r.now) remarks.run) ++ codes "</main>\n</body>\n</html>\n")

-- what a solution says of the lines, if anything is said
abbrev pub details_of : Remarks → Option (List Detail)
details_of remarks = option_map (λ d. d.now) remarks.details

-- the whole page, with the bars of each line and the tree
abbrev pub html_bytes : Caption → Remarks → Picture → (ℕ → List Bar) → List ℕ → List ℕ
html_bytes caption remarks picture bars svg =
    let details = details_of remarks in
    head caption details ++ (above caption remarks picture.file.now ++ (chart caption details picture bars ++ below remarks picture.file.now svg))

-- the most lines of a plan whose tree is drawn too
abbrev pub max_drawn : ℕ
max_drawn = 400

-- the most actions of a plan whose run is shown
abbrev pub max_run : ℕ
max_run = 2000

-- the tree of a picture as SVG, unless the picture has more than 400 lines
pub record IsTreeOf (caption : Caption) (details : Option (List Detail)) (picture : Picture) (svg : List ℕ) : Type 0 where
  pub drawn : length picture.rows.items ≤ max_drawn → IsSvgOf caption details picture svg
  pub left_out : max_drawn < length picture.rows.items → svg ≡ []

-- the page of a picture, with the bars of each line, with its tree and with what is said beside it
pub record IsHtmlOf (caption : Caption) (remarks : Remarks) (picture : Picture) (bytes : List ℕ) : Type 0 where
  pub bars : ℕ → List Bar
  pub are_bars : AreAllBars picture bars
  pub svg : List ℕ
  pub is_tree : IsTreeOf caption (details_of remarks) picture svg
  pub bytes_are : bytes ≡ html_bytes caption remarks picture bars svg
