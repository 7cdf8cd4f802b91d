-- Why a plan has its verdict, as lines.
use Rattle.std.specs.Prelude.{ℕ, ◌==◌, if◌then◌else◌, List, [], ◌∷◌, ◌++◌, codes}
use Rattle.std.specs.List.{flat_map}
use Rattle.std.specs.Str.{bytes_eq}
use Rattle.diagnostics.specs.Shown.{shown}
use Rattle.picture_svg.specs.Escape.{escape}

-- a byte as it is shown, and a line feed as it is
abbrev pub line_byte : ℕ → ℕ
line_byte b = if b == 10 then b else shown b

-- lines, each byte that is markup by its name
abbrev pub clean_lines : List ℕ → List ℕ
clean_lines lines = flat_map (λ b. escape (line_byte b)) lines

-- what they begin with, by the verdict
abbrev pub begin : List ℕ → List ℕ
begin verdict = if bytes_eq verdict (codes "valid") then codes "<pre class=\"why\">" else codes "<pre class=\"why no\">"

-- the lines that say why, if there are some; a line feed at their beginning is not seen
abbrev pub why : List ℕ → List ℕ → List ℕ
why verdict [] = []
why verdict (b ∷ lines) = begin verdict ++ (clean_lines (b ∷ lines) ++ codes "</pre>\n")
