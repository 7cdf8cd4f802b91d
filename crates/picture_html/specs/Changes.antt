-- The run: what each action makes true and false.
use Rattle.std.specs.Prelude.{ℕ, suc, List, [], ◌∷◌, ◌++◌, codes, Option, Some, None}
use Rattle.std.specs.List.{flat_map}
use Rattle.htn_model.specs.PlanFile.{ActionLine, PlanFile, Word}
use Rattle.plan_causes.specs.Facts.{words_of}
use Rattle.plan_causes.specs.declared.run.Change.{Change}
use Rattle.plan_causes.specs.declared.run.Fact.{Fact}
use Rattle.plan_causes.specs.declared.run.Run.{Run}
use Rattle.picture_html.specs.Label.{between, clean, name_text, spaced}

-- words with a blank between any two
abbrev pub joined : List Word → List ℕ
joined [] = []
joined (word ∷ words) = clean word ++ flat_map spaced words

-- a fact, as `(on a b)`
abbrev pub fact : Fact → List ℕ
fact f = codes "<span>(" ++ (joined (words_of f) ++ codes ")</span> ")

-- what becomes true, and what becomes false
abbrev pub change : List Fact → List Fact → List ℕ
change added deleted =
    codes "<td class=\"add\">" ++ (flat_map fact added ++ (codes "</td><td class=\"del\">" ++ (flat_map fact deleted ++ codes "</td></tr>\n")))

-- the row of what is true at first
abbrev pub start_row : List Fact → List ℕ
start_row facts = codes "<tr><td></td><td>at the start</td>" ++ change facts []

-- the row of an action: its position, its words, and what it changes
abbrev pub action_row : ℕ → ActionLine → Change → List ℕ
action_row position line c =
    between (codes "<tr><td>") position (codes "</td><td>") ++ (name_text line.name line.arguments ++ (codes "</td>" ++ change c.added.items c.deleted.items))

-- the rows of the actions that are carried out, from a position on
abbrev pub action_rows : ℕ → List ActionLine → List Change → List ℕ
action_rows position [] changes = []
action_rows position (line ∷ lines) [] = []
action_rows position (line ∷ lines) (c ∷ changes) = action_row position line c ++ action_rows (suc position) lines changes

-- the table of a run
abbrev pub table : PlanFile → Run → List ℕ
table file r =
    codes "<h2>Run</h2>\n<div class=\"run\">\n<table>\n<tr><th></th><th>action</th>"
    ++ (codes "<th>becomes true</th><th>becomes false</th></tr>\n"
    ++ (start_row r.start.items ++ (action_rows 0 file.actions r.changes.items ++ codes "</table>\n</div>\n")))

-- the same, if it is shown
abbrev pub run : PlanFile → Option Run → List ℕ
run file None = []
run file (Some r) = table file r
