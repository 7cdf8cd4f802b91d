-- What is said of a line: its sign, its words, its id and what is wrong with it.
use Rattle.std.specs.Prelude.{ℕ, zero, suc, nat_eq, if◌then◌else◌, List, [], ◌∷◌, ◌++◌, codes, Option, Some, None}
use Rattle.std.specs.List.{flat_map}
use Rattle.std.specs.Fmt.{decimal}
use Rattle.htn_model.specs.PlanFile.{Word}
use Rattle.diagnostics.specs.Shown.{shown}
use Rattle.picture_text.specs.declared.caption.Mark.{Mark}
use Rattle.picture_text.specs.Lines.{Line, action, task}
use Rattle.picture_svg.specs.Escape.{escape}

-- words as they are shown, each byte that is markup by its name
abbrev pub clean : List ℕ → List ℕ
clean words = flat_map (λ b. escape (shown b)) words

-- words between two texts
abbrev pub words_between : List ℕ → List ℕ → List ℕ → List ℕ
words_between before words after = before ++ (clean words ++ after)

-- a number between two texts
abbrev pub between : List ℕ → ℕ → List ℕ → List ℕ
between before number after = before ++ (decimal number ++ after)

-- a word after a blank
abbrev pub spaced : Word → List ℕ
spaced word = 32 ∷ clean word

-- a name with its arguments
abbrev pub name_text : Word → List Word → List ℕ
name_text name arguments = words_between (codes "<b>") name (codes "</b>") ++ flat_map spaced arguments

-- the words of a line, and the method of a task
abbrev pub words : Line → List ℕ
words (action line) = name_text line.name line.arguments
words (task line) = name_text line.task line.arguments ++ words_between (codes " <em>") line.method (codes "</em>")

-- an id
abbrev pub id_text : ℕ → List ℕ
id_text id = between (codes " <small>#") id (codes "</small>")

-- the id of a line, of an action where that isn't its position
abbrev pub id : ℕ → Line → List ℕ
id position (action line) = if nat_eq line.id position then [] else id_text line.id
id position (task line) = id_text line.id

-- what is wrong with a line, if it is marked
abbrev pub flag : Option Mark → List ℕ
flag None = []
flag (Some mark) = words_between (codes " <mark>") mark.cause.now (codes "</mark>")

-- the sign of a line: the position of an action, or the sign of a task
abbrev pub sign : ℕ → Line → List ℕ
sign number (action line) = between (codes "<b class=\"no\">") number (codes "</b>")
sign number (task line) = codes "<b class=\"sign\"></b>"

-- how many more lines a line is below than its indent shows, if any
abbrev pub cut : ℕ → List ℕ
cut zero = []
cut (suc more) = between (codes "<small>+") (suc more) (codes "</small>")

-- the words of a line, its id and what is wrong with it
abbrev pub text : Option Mark → ℕ → Line → List ℕ
text mark number line = words line ++ (id number line ++ flag mark)

-- what stands before the words of a line that is below some lines more than its indent shows
abbrev pub front : ℕ → ℕ → Line → List ℕ
front more number line = codes "<span class=\"label\">" ++ (cut more ++ (sign number line ++ codes "<span>"))

-- the label of such a line
abbrev pub label : Option Mark → ℕ → ℕ → Line → List ℕ
label mark more number line = front more number line ++ (text mark number line ++ codes "</span></span>")
