-- Diagnostics, and reports of many, as they are written.
use Rattle.std.specs.Prelude.{ℕ, zero, suc, ◌-◌, Bool, true, false, List, [], ◌∷◌, ◌++◌, length, take, min, map, count_by, codes}
use Rattle.std.specs.List.{flat_map}
use Rattle.std.specs.Fmt.{decimal}
use Rattle.diagnostics.specs.declared.diagnostic.Where.{Where}
use Rattle.diagnostics.specs.declared.diagnostic.Where.TheVariants.{Text, Place}
use Rattle.diagnostics.specs.declared.diagnostic.Severity.{Severity}
use Rattle.diagnostics.specs.declared.diagnostic.Severity.TheVariants as severity
use Rattle.diagnostics.specs.declared.diagnostic.Diagnostic.{Diagnostic}
use Rattle.diagnostics.specs.declared.diagnostic.Part.{Part}
use Rattle.std.specs.declared.alloc.Global.{Global}
use Rattle.std.specs.declared.vec.Vec.{Vec}
use Rattle.diagnostics.specs.declared.ink.Style.{Style}
use Rattle.diagnostics.specs.declared.ink.Style.TheVariants as style
use Rattle.diagnostics.specs.Ink.{Ink, written, opened, closed, said, named, ended, styled}
use Rattle.diagnostics.specs.Groups.{folded}
use Rattle.diagnostics.specs.Parts.{message_inks, place_inks, snippet_inks, remark_inks, note_inks}

-- the name of a text, or a place
abbrev pub where_inks : Where → List Ink
where_inks (Text source) = named source.now.name.now
where_inks (Place spot) = place_inks spot

-- the word for a severity
abbrev pub severity_word : Severity → List ℕ
severity_word severity.Error = codes "error: "
severity_word severity.Warning = codes "warning: "

-- the style of a severity
abbrev pub severity_style : Severity → Style
severity_style severity.Error = style.Error
severity_style severity.Warning = style.Warning

-- the code in brackets
abbrev pub code_inks : List ℕ → List Ink
code_inks code = opened style.Dim ++ said (codes " [") ++ said code ++ said (codes "]") ++ closed

-- `FILE:LINE:COLUMN: error: `
abbrev pub start_inks : Diagnostic → List Ink
start_inks d = opened style.Bold ++ where_inks d.about ++ said (codes ": ") ++ closed ++ styled (severity_style d.severity) (severity_word d.severity)

-- `FILE:LINE:COLUMN: error: MESSAGE [Code]`
abbrev pub head_inks : Diagnostic → List Ink
head_inks d = start_inks d ++ opened style.Bold ++ message_inks d.message.items ++ closed ++ code_inks d.code.now ++ ended

-- what a diagnostic says, of whatever place: its severity, its message and its code, as they are written
abbrev pub saying : Diagnostic → List ℕ
saying d = written false (styled (severity_style d.severity) (severity_word d.severity) ++ message_inks d.message.items ++ code_inks d.code.now)

-- the line of the place, if there is a place
abbrev pub shown_inks : Diagnostic → List Ink
shown_inks d = elim d.about [ Text source ↦ [] | Place spot ↦ snippet_inks spot (severity_style d.severity) d.label.items ]

-- a place after a comma
abbrev pub comma_inks : Where → List Ink
comma_inks place = said (codes ", ") ++ where_inks place

-- how many places are left, if any
abbrev pub rest_inks : ℕ → List Ink
rest_inks zero = []
rest_inks (suc n) = said (codes ", ") ++ said (decimal (suc n)) ++ said (codes " more")

-- the further places, of which four are written
abbrev pub also_inks : List Where → List Ink
also_inks [] = []
also_inks (place ∷ places) =
    styled style.Rule (codes "      = ") ++ styled style.Note (codes "also at ") ++ where_inks place
    ++ flat_map comma_inks (take 3 places) ++ rest_inks (length places - 3) ++ ended

-- a diagnostic
abbrev pub body_inks : Diagnostic → List Ink
body_inks d = head_inks d ++ shown_inks d ++ flat_map remark_inks d.remarks.items ++ flat_map note_inks d.notes.items

-- a diagnostic, and the places of others that say the same, with an empty line after them
abbrev pub whole_inks : Diagnostic → List Where → List Ink
whole_inks d also = body_inks d ++ also_inks also ++ ended

-- diagnostics that say the same: the first, and the places of the others
abbrev pub group_inks : List Diagnostic → List Ink
group_inks [] = []
group_inks (d ∷ more) = whole_inks d (map (λ e. e.about) more)

-- ---- reports

-- how many groups are written of a list of some length: at most the limit, of which 0 is all
abbrev pub shown_count : ℕ → ℕ → ℕ
shown_count zero len = len
shown_count (suc n) len = min (suc n) len

-- how many are left, if any
abbrev pub cut_inks : ℕ → List Ink
cut_inks zero = []
cut_inks (suc n) = said (codes "and ") ++ said (decimal (suc n)) ++ said (codes " more: --limit 0 shows all") ++ ended

-- a line that is handed in
abbrev pub summary_inks : Vec Part Global → List Ink
summary_inks line = message_inks line.items ++ ended

-- `no errors`, `1 error`, `2 errors`
abbrev pub count_inks : Style → ℕ → List ℕ → List Ink
count_inks s zero word = said (codes "no ") ++ said word ++ said (codes "s")
count_inks s (suc zero) word = opened s ++ said (codes "1 ") ++ said word ++ closed
count_inks s (suc (suc n)) word = opened s ++ said (decimal (suc (suc n))) ++ said (codes " ") ++ said word ++ said (codes "s") ++ closed

-- the last line
abbrev pub counts_inks : ℕ → ℕ → List Ink
counts_inks errors warnings = count_inks style.Error errors (codes "error") ++ said (codes ", ") ++ count_inks style.Warning warnings (codes "warning") ++ ended

-- whether this is an error
abbrev pub is_error : Severity → Bool
is_error severity.Error = true
is_error severity.Warning = false

-- A report: what is said, that which is said of several places once, as far as it is shown; how much is left; the lines
-- that are handed in; and how many errors and warnings there are.
abbrev pub report_inks : List Diagnostic → List (Vec Part Global) → ℕ → List Ink
report_inks ds summary limit =
    let groups = folded saying ds in
    let count = shown_count limit (length groups) in
    let errors = count_by (λ d. is_error d.severity) ds in
    flat_map group_inks (take count groups) ++ cut_inks (length groups - count) ++ flat_map summary_inks summary ++ counts_inks errors (length ds - errors)
