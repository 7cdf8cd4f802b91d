-- The picture as text. Left of it stand the positions of the actions in the plan.
use Rattle.std.specs.Prelude.{ℕ, zero, suc, ◌-◌, Bool, true, false, nat_eq, if◌then◌else◌, List, [], ◌∷◌, ◌++◌, length, map, replicate, codes, Option, Some, None}
use Rattle.std.specs.List.{flat_map}
use Rattle.std.specs.Fmt.{decimal}
use Rattle.htn_model.specs.PlanFile.{ActionLine, DecompositionLine, PlanFile}
use Rattle.diagnostics.specs.Shown.{shown}
use Rattle.picture_text.specs.declared.caption.Caption.{Caption}
use Rattle.picture_text.specs.declared.caption.Mark.{Mark}
use Rattle.plan_picture.specs.declared.picture.Picture.{Picture}
use Rattle.picture_text.specs.declared.as_text.Glyphs.{Glyphs}
use Rattle.picture_text.specs.declared.as_text.Glyphs.TheVariants.{Unicode, Ascii}
use Rattle.plan_text.specs.Forest.{lists_of}
use Rattle.plan_text.specs.Reached.{children_at}
use Rattle.plan_picture.specs.Rows.{Row, is_end}
use Rattle.picture_text.specs.declared.detail.Setting.{Setting}
use Rattle.picture_text.specs.declared.detail.Condition.{Condition}
use Rattle.picture_text.specs.declared.detail.Detail.{Detail}
use Rattle.picture_text.specs.Details.{detail_at, settings_of, condition_of, setting_words, condition_words}
use Rattle.picture_text.specs.Lines.{Line, action, task, id_of, line_at}
use Rattle.picture_text.specs.Words.{task_words, mark_of}
use Rattle.plan_picture.specs.Seen.{seen}

-- the signs before a line: `├─ `, or `└─ ` before the last of its siblings
abbrev pub branch : Glyphs → Bool → List ℕ
branch Unicode false = 226 ∷ 148 ∷ 156 ∷ 226 ∷ 148 ∷ 128 ∷ 32 ∷ []
branch Unicode true = 226 ∷ 148 ∷ 148 ∷ 226 ∷ 148 ∷ 128 ∷ 32 ∷ []
branch Ascii false = codes "|- "
branch Ascii true = codes "`- "

-- the signs below a line, before the lines below it: `│ `, or blanks below the last of its siblings
abbrev pub bar : Glyphs → Bool → List ℕ
bar glyphs true = codes "   "
bar Unicode false = 226 ∷ 148 ∷ 130 ∷ 32 ∷ 32 ∷ []
bar Ascii false = codes "|  "

-- how many bars are left out, if any
abbrev pub cut : ℕ → List ℕ
cut zero = []
cut (suc n) = codes "+" ++ decimal (suc n) ++ codes " "

-- all signs before a row's words
abbrev pub front : Glyphs → Row → List ℕ
front glyphs row = flat_map (bar glyphs) row.above ++ (cut (row.depth - length row.above) ++ branch glyphs row.is_last)

-- the id of a line
abbrev pub id_text : ℕ → List ℕ
id_text id = codes "  #" ++ decimal id

-- what is wrong with a line, if it is marked
abbrev pub mark_text : Option Mark → List ℕ
mark_text None = []
mark_text (Some mark) = codes "  <- " ++ map shown mark.cause.now

-- the left margin: the position of an action, or blanks
abbrev pub margin_of : ℕ → ℕ → Line → List ℕ
margin_of width position (action line) = replicate (width - length (decimal position)) 32 ++ decimal position ++ replicate 2 32
margin_of width position (task line) = replicate width 32 ++ replicate 2 32

-- the words of an action, with its id where that isn't its position
abbrev pub action_label : ℕ → ActionLine → List ℕ
action_label position line = task_words line.name line.arguments ++ (if nat_eq line.id position then [] else id_text line.id)

-- a parameter after a blank, with its value
abbrev pub spaced_setting : Setting → List ℕ
spaced_setting setting = 32 ∷ setting_words (codes "=") setting

-- parameters with their values, ` (?satellite=watcher ?instrument=lens)`, if there are some
abbrev pub settings_text : List Setting → List ℕ
settings_text [] = []
settings_text (setting ∷ settings) = codes " (" ++ (setting_words (codes "=") setting ++ (flat_map spaced_setting settings ++ codes ")"))

-- the words of a task, its method with the values of some of its parameters, and its id
abbrev pub task_label : List Setting → DecompositionLine → List ℕ
task_label settings line = task_words line.task line.arguments ++ (codes " -> " ++ (map shown line.method ++ (settings_text settings ++ id_text line.id)))

-- the words of a line
abbrev pub label : ℕ → List Setting → Line → List ℕ
label position settings (action line) = action_label position line
label position settings (task line) = task_label settings line

-- the line of a row
abbrev pub own_text : Glyphs → ℕ → Option Mark → Row → List Setting → Line → List ℕ
own_text glyphs width mark row settings line =
    margin_of width row.line line ++ (front glyphs row ++ (label row.line settings line ++ (mark_text (mark_of mark (id_of line)) ++ 10 ∷ [])))

-- the signs below a row, before what is below its line, if there is something
abbrev pub front_below : Glyphs → ℕ → Bool → Row → List ℕ
front_below glyphs width leaf row =
    replicate width 32 ++ (replicate 2 32 ++ (flat_map (bar glyphs) row.above ++ (cut (row.depth - length row.above) ++ (bar glyphs row.is_last ++ bar glyphs leaf))))

-- below the line of a row the precondition of its method, if that has one, and when it is tested
abbrev pub condition_text : Glyphs → ℕ → Bool → Row → Option Condition → List ℕ
condition_text glyphs width leaf row None = []
condition_text glyphs width leaf row (Some condition) = front_below glyphs width leaf row ++ (condition_words condition ++ 10 ∷ [])

-- the line of a row, if there is such a line, and what a solution says of it
abbrev pub line_text : Glyphs → ℕ → Option Mark → Bool → Row → Option Detail → Option Line → List ℕ
line_text glyphs width mark leaf row detail None = []
line_text glyphs width mark leaf row detail (Some line) =
    own_text glyphs width mark row (settings_of detail) line ++ condition_text glyphs width leaf row (condition_of detail)

-- how wide the positions are
abbrev pub width_of : PlanFile → ℕ
width_of file = length (decimal (length file.actions - 1))

-- the problem and the verdict
abbrev pub title : ℕ → Caption → List ℕ
title width caption = replicate width 32 ++ (replicate 2 32 ++ (map shown caption.problem.now ++ (codes ": " ++ (map shown caption.verdict.now ++ 10 ∷ []))))

-- whether the line with a number has no children
abbrev pub is_leaf : Picture → ℕ → Bool
is_leaf picture number = is_end (children_at (length picture.file.now.actions) (lists_of picture.children.items) number)

-- a row of a picture
abbrev pub row_text : Glyphs → ℕ → Option Mark → Option (List Detail) → Picture → Row → List ℕ
row_text glyphs width mark details picture row =
    let file = picture.file.now in
    line_text glyphs width mark (is_leaf picture row.line) row (detail_at details (length file.actions) row.line) (line_at file row.line)

-- the title, and the text of each row
abbrev pub text_bytes : Glyphs → Caption → Option (List Detail) → Picture → List ℕ
text_bytes glyphs caption details picture =
    let width = width_of picture.file.now in
    title width caption ++ flat_map (λ r. row_text glyphs width caption.mark details picture (seen r)) picture.rows.items
