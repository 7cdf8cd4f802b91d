-- The lines of a run as people read them.
use Rattle.std.specs.Prelude.{ℕ, ◌-◌, ◌==◌, ◌&&◌, if◌then◌else◌, List, [], ◌∷◌, ◌++◌, codes, length, map, max, min, replicate, take}
use Rattle.std.specs.Fmt.{decimal}
use Rattle.std.specs.List.{flat_map, fold, join_by, zip}
use Rattle.htn_model.specs.PlanFile.{ActionLine, PlanFile, Word}
use Rattle.plan_causes.specs.Facts.{words_of}
use Rattle.plan_causes.specs.declared.run.Change.{Change}
use Rattle.plan_causes.specs.declared.run.Fact.{Fact}
use Rattle.plan_causes.specs.declared.run.Run.{Run}
use Rattle.diagnostics.specs.Shown.{shown}
use Rattle.plan_messages.specs.declared.lines.Columns.{Columns}

-- ## Facts

-- words with a blank between any two, each byte as it is shown
abbrev pub shown_words : List Word → List ℕ
shown_words words = join_by (map shown) (codes " ") words

-- a fact after a blank and a mark, as ` +(on a b)`
abbrev pub fact_text : List ℕ → Fact → List ℕ
fact_text mark f = codes " " ++ mark ++ codes "(" ++ shown_words (words_of f) ++ codes ")"

-- what an action makes true, and what it makes false
abbrev pub change_text : Change → List ℕ
change_text c =
    if (length c.added.items == 0) && (length c.deleted.items == 0)
    then codes " no change"
    else flat_map (fact_text (codes "+")) c.added.items ++ flat_map (fact_text (codes "-")) c.deleted.items

-- what is true at first
abbrev pub start_text : List Fact → List ℕ
start_text facts = if length facts == 0 then codes " " else flat_map (fact_text []) facts

-- ## Columns

-- this many blanks
abbrev pub blanks : ℕ → List ℕ
blanks n = replicate n 32

-- the words of an action, as `stack a b`
abbrev pub action_text : ActionLine → List ℕ
action_text line = shown_words (line.name ∷ line.arguments)

-- How wide they are. Of longer ones only 60 bytes count, so that a long line doesn't widen all others.
abbrev pub action_width : ActionLine → ℕ
action_width line = min (length (action_text line)) 60

-- how wide a number is
abbrev pub number_width : ActionLine → ℕ
number_width line = length (decimal line.id)

-- the columns of numbers and of actions are as wide as the widest of them, the second at least as `start`
abbrev pub columns_of : List ActionLine → Columns
columns_of lines = record {
  number = fold (λ widest line. max widest (number_width line)) 0 lines;
  words = fold (λ widest line. max widest (action_width line)) 5 lines;
}

-- ## Lines

-- the line of what is true at first
abbrev pub start_line : Columns → List Fact → List ℕ
start_line c facts = blanks c.number ++ codes "  start" ++ blanks (c.words - 5) ++ codes " " ++ start_text facts ++ codes "\n"

-- the number of an action, right in its column, and its words, left in theirs
abbrev pub action_columns : Columns → ActionLine → List ℕ
action_columns c line = blanks (c.number - number_width line) ++ decimal line.id ++ codes "  " ++ action_text line ++ blanks (c.words - action_width line)

-- the line of an action, and what it changes
abbrev pub action_line : Columns → ActionLine × Change → List ℕ
action_line c (line, change) = action_columns c line ++ codes " " ++ change_text change ++ codes "\n"

-- the line of what is true at first, and one for each action that is carried out
abbrev pub run_text : PlanFile → Run → List ℕ
run_text file r =
    let columns = columns_of (take (length r.changes.items) file.actions) in
    start_line columns r.start.items ++ flat_map (action_line columns) (zip file.actions r.changes.items)
