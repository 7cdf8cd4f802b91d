-- Reports, and what they come to.
use Rattle.std.specs.Prelude.{◌≡◌, ℕ, ◌&&◌, Bool, false, not, Option, if◌then◌else◌, List, map, length, ◌==◌}
use Rattle.std.specs.List.{flat_map, list_any}
use Rattle.std.specs.declared.alloc.Global.{Global}
use Rattle.std.specs.declared.vec.Vec.{Vec}
use Rattle.diagnostics.specs.declared.diagnostic.Diagnostic.{Diagnostic}
use Rattle.diagnostics.specs.declared.diagnostic.Part.{Part}
use Rattle.diagnostics.specs.declared.format.Format.{Format}
use Rattle.diagnostics.specs.declared.format.Format.TheVariants as format
use Rattle.diagnostics.specs.declared.reached.Reached.{Reached}
use Rattle.diagnostics.specs.Ink.{written}
use Rattle.diagnostics.specs.Json.{json_bytes}
use Rattle.diagnostics.specs.Written as report
use Rattle.pair_messages.specs.Counts.{numbers_of}
use Rattle.check_report.specs.declared.report.Checked.{Checked}
use Rattle.check_report.specs.declared.report.Finding.{Finding}
use Rattle.check_report.specs.declared.report.Finding.TheVariants.{Sound, Warned, Faulty}
use Rattle.check_report.specs.declared.report.Options.{Options}

-- whether a diagnostic is an error
abbrev pub is_error : Diagnostic → Bool
is_error d = report.is_error d.severity

-- faulty where there is an error, else warned where warnings count and there is one, else sound
abbrev pub finding_of : Bool → List Diagnostic → Finding
finding_of is_strict ds = if list_any is_error ds then Faulty else (if is_strict && not (length ds == 0) then Warned else Sound)

-- the bytes of a report in a format
abbrev pub bytes_in : Format → ℕ → Bool → List Diagnostic → List (Vec Part Global) → Option Reached → List ℕ
bytes_in format.Text limit colour ds summary reached = written colour (report.report_inks ds summary limit)
bytes_in format.Short limit colour ds summary reached = written false (flat_map report.head_inks ds)
bytes_in format.Json limit colour ds summary reached = json_bytes ds reached

-- the bytes of a report
abbrev pub report_bytes : Options → List Diagnostic → List (Vec Part Global) → Option Reached → List ℕ
report_bytes o = bytes_in o.format o.limit o.colour

-- a report of these diagnostics, the lines of a summary, and what a plan may use, where that is known
pub record IsReport (o : Options) (ds : List Diagnostic) (summary : List (Vec Part Global)) (reached : Option Reached) (c : Checked) : Type 0 where
  pub finding : c.finding ≡ finding_of o.is_strict ds
  pub text : c.text.items ≡ report_bytes o ds summary reached

-- the counts that the lines of a summary give
abbrev pub counts_in : List (Vec Part Global) → List (List ℕ)
counts_in = map (λ line. numbers_of line.items)
