-- The time of a line beside it: its bars, and where the precondition of its method is tested.
use Rattle.std.specs.Prelude.{ℕ, List, [], ◌∷◌, ◌++◌, length, get_or, codes, Option, Some, None}
use Rattle.std.specs.List.{flat_map}
use Rattle.picture_text.specs.declared.detail.Condition.{Condition}
use Rattle.picture_html.specs.declared.bars.Bar.{Bar}
use Rattle.picture_html.specs.Label.{between}

-- where a bar is
abbrev pub extent : ℕ → ℕ → List ℕ
extent first last = between (codes " style=\"--a:") first (codes ";--b:") ++ between (codes "") last (codes "\"></i>")

-- a bar
abbrev pub bar_text : Bar → List ℕ
bar_text bar = codes "<i" ++ extent bar.first bar.last

-- the line that links bars, from the first to the last of at least two
abbrev pub link : List Bar → List ℕ
link [] = []
link (bar ∷ []) = []
link (bar ∷ next ∷ bars) = codes "<i class=\"link\"" ++ extent bar.first (get_or (next ∷ bars) (length bars) bar).last

-- the sign before the position at which the precondition of a line's method is tested, if it has one
abbrev pub test : Option Condition → List ℕ
test None = []
test (Some condition) = between (codes "<i class=\"p\" style=\"--a:") condition.gap (codes "\"></i>")

-- the bars, the line that links them, and the sign of a test
abbrev pub time : List Bar → Option Condition → List ℕ
time bars condition = codes "<span class=\"time\">" ++ (link bars ++ (flat_map bar_text bars ++ (test condition ++ codes "</span>")))
