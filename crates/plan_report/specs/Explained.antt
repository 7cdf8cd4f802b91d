-- Why a plan has its verdict, and why its text is refused, as the bytes of a report.
use Rattle.std.specs.Prelude.{◌≡◌, ◌⊎◌, ℕ, zero, suc, ◌+◌, ◌-◌, ◌^◌, count_by, min, length, Bool, true, false, List, [], ◌∷◌, Option, Some, None, codes, ⊤}
use Rattle.std.specs.List.{flat_map}
use Rattle.std.specs.declared.alloc.Global.{Global}
use Rattle.std.specs.declared.vec.Vec.{Vec}
use Rattle.htn_model.specs.Task.{Task}
use Rattle.htn_verify.specs.declared.verdict.Verdict.{Verdict}
use Rattle.htn_verify.specs.declared.verdict.Verdict.TheVariants as verdict
use Rattle.plan_text.specs.declared.fault.PlanFault.{PlanFault}
use Rattle.plan_text.specs.declared.fault.PlanFault.TheVariants as fault
use Rattle.diagnostics.specs.Ink.{written}
use Rattle.diagnostics.specs.Verdicts.{explained_bytes, short_bytes, text_bytes}
use Rattle.diagnostics.specs.Written.{head_inks, report_inks}
use Rattle.diagnostics.specs.declared.diagnostic.Diagnostic.{Diagnostic}
use Rattle.diagnostics.specs.declared.diagnostic.Part.{Part}
use Rattle.diagnostics.specs.declared.diagnostic.Source.{Source}
use Rattle.diagnostics.specs.declared.diagnostic.Where.{Where}
use Rattle.diagnostics.specs.declared.diagnostic.Where.TheVariants.{Text, Place}
use Rattle.diagnostics.specs.declared.format.Format.{Format}
use Rattle.diagnostics.specs.declared.format.Format.TheVariants as format
use Rattle.plan_messages.specs.Errors.{IsError}
use Rattle.plan_messages.specs.Explanation.{Explains}
use Rattle.plan_messages.specs.RunText.{run_text}
use Rattle.plan_messages.specs.declared.texts.PlanTexts.{PlanTexts}
use Rattle.htn_model.specs.PlanFile.{PlanFile}
use Rattle.plan_findings.specs.Causes.{IsRunReason, IsStructureReason, tasks_of}
use Rattle.plan_findings.specs.Runs.{IsRunOf}
use Rattle.plan_findings.specs.Steps.{takes_step}
use Rattle.pair_messages.specs.Counts.{numbers_of}
use Rattle.plan_causes.specs.declared.reason.Cause.TheVariants as cause
use Rattle.plan_causes.specs.declared.reason.Cause.{Cause}
use Rattle.plan_report.specs.Shorter.{IsShorter}
use Rattle.plan_causes.specs.declared.run.Run.{Run}
use Rattle.plan_report.specs.declared.report.ReportStyle.{ReportStyle}

-- ## Verdicts

-- whether it is `valid`
abbrev pub is_valid : Verdict → Bool
is_valid verdict.Valid = true
is_valid _ = false

-- a line has no instance, or the lines can't be arranged
abbrev pub HasReason : Verdict → Type 0
HasReason (verdict.NoInstance line) = ⊤
HasReason verdict.NoArrangement = ⊤
HasReason _ = ⊥

-- the name of such a verdict
abbrev pub code_of : Verdict → List ℕ
code_of (verdict.NoInstance line) = codes "NoInstance"
code_of verdict.NoArrangement = codes "NoArrangement"
code_of _ = []

-- the cause of a verdict
abbrev pub IsCauseOf : Task → PlanFile → Verdict → Cause → Type 0
IsCauseOf task file verdict.Structure c = IsStructureReason file c
IsCauseOf task file (verdict.NoInstance line) c = c ≡ cause.NoInstance line
IsCauseOf task file (verdict.NotExecutable id) c = IsRunReason task file c
IsCauseOf task file verdict.GoalFails c = IsRunReason task file c
IsCauseOf task file verdict.NoArrangement c = c ≡ cause.NoArrangement
IsCauseOf task file verdict.Valid c = c ≡ cause.Valid

-- at most how many wrong numbers a text shows
abbrev pub most_numbers : ℕ
most_numbers = 100

-- what a report shows of a cause, and how many numbers it leaves out: as text those past the first hundred
abbrev pub IsShownAs : Format → Cause → Cause → ℕ → Type 0
IsShownAs format.Text whole shown left = IsShorter most_numbers whole shown left
IsShownAs _ whole shown left = (shown ≡ whole) × (left ≡ 0)

-- the cause of a verdict, as far as a report shows it
abbrev pub IsShownCauseOf : Task → PlanFile → Verdict → Format → Cause → ℕ → Type 0
IsShownCauseOf task file v form shown left = (whole : Cause) × IsCauseOf task file v whole × IsShownAs form whole shown left

-- just one error, with this code
abbrev pub IsSingle : List ℕ → List Diagnostic → Type 0
IsSingle code ds = (d : Diagnostic) × (ds ≡ d ∷ []) × IsError code d

-- the errors of a verdict: one with its name, or those that say its cause; and how many are left out
abbrev pub AreErrorsOf : Task → PlanTexts → Verdict → Format → List Diagnostic → ℕ → Type 0
AreErrorsOf task texts v form ds left =
    (HasReason v × IsSingle (code_of v) ds × (left ≡ 0))
    ⊎ ((shown : Cause) × IsShownCauseOf task texts.plan.file.now v form shown left × Explains texts shown ds)

-- ## Reports

-- whether a report has the lines of the run: if they are wanted, and the lines of the file have one
abbrev pub has_run : Verdict → ReportStyle → Bool
has_run verdict.Structure style = false
has_run (verdict.NoInstance line) style = false
has_run _ style = style.has_states

-- the lines of the run of the action lines, or none
abbrev pub AreRunLines : Task → PlanFile → Bool → List ℕ → Type 0
AreRunLines task file true bytes = (r : Run) × IsRunOf task (tasks_of task file) r × (bytes ≡ run_text file r)
AreRunLines task file false bytes = bytes ≡ []

-- the numbers of actions, of decomposed tasks, of precondition steps and of all of them, as far as 64 bits hold it
abbrev pub node_counts : Task → PlanFile → List ℕ
node_counts task file =
    let actions = length file.actions in
    let tasks = length file.decompositions in
    let steps = count_by (takes_step task) file.decompositions in
    actions ∷ tasks ∷ steps ∷ min (min (actions + tasks) (2 ^ 64 - 1) + steps) (2 ^ 64 - 1) ∷ []

-- a line with some numbers
abbrev pub IsLineOf : List ℕ → List (Vec Part Global) → Type 0
IsLineOf numbers lines = (line : Vec Part Global) × (lines ≡ line ∷ []) × (numbers_of line.items ≡ numbers)

-- a line that says how many errors are left out, if any are
abbrev pub AreLeft : ℕ → List (Vec Part Global) → Type 0
AreLeft zero lines = lines ≡ []
AreLeft (suc n) lines = IsLineOf (suc n ∷ []) lines

-- a line with these numbers of a valid plan; of another what is left out
abbrev pub AreLastLines : Task → PlanFile → Bool → ℕ → List (Vec Part Global) → Type 0
AreLastLines task file true left lines = IsLineOf (node_counts task file) lines
AreLastLines task file false left lines = AreLeft left lines

-- The words of a verdict and its errors in each format. At the end of the text the nodes of a valid plan are counted, or
-- the errors that are left out.
abbrev pub IsWrittenIn : Format → Task → PlanFile → Verdict → List ℕ → ReportStyle → List Diagnostic → ℕ → List ℕ → Type 0
IsWrittenIn format.Text task file v words style ds left bytes =
    (run : List ℕ) × (lines : List (Vec Part Global)) × AreRunLines task file (has_run v style) run × AreLastLines task file (is_valid v) left lines
    × (bytes ≡ text_bytes style.colour (is_valid v) words run ds lines)
IsWrittenIn format.Short task file v words style ds left bytes =
    (run : List ℕ) × AreRunLines task file (has_run v style) run × (bytes ≡ short_bytes words run ds)
IsWrittenIn format.Json task file v words style ds left bytes = bytes ≡ explained_bytes (Some words) ds

-- the words of a verdict and its errors in the format that is asked for
abbrev pub IsWritten : Task → PlanFile → Verdict → List ℕ → ReportStyle → List Diagnostic → ℕ → List ℕ → Type 0
IsWritten task file v words style ds left bytes = IsWrittenIn style.format task file v words style ds left bytes

-- the bytes that say why a file has its verdict
abbrev pub IsExplanation : Task → PlanTexts → Verdict → List ℕ → ReportStyle → List ℕ → Type 0
IsExplanation task texts v words style bytes =
    (ds : List Diagnostic) × (left : ℕ) × AreErrorsOf task texts v style.format ds left × IsWritten task texts.plan.file.now v words style ds left bytes

-- ## Texts that are refused

-- the name of a fault
abbrev pub fault_code : PlanFault → List ℕ
fault_code fault.NoStart = codes "NoStart"
fault_code fault.NoEnd = codes "NoEnd"
fault_code (fault.BadLine place) = codes "BadLine"
fault_code (fault.TwoRoots place) = codes "TwoRoots"
fault_code fault.NoRoot = codes "NoRoot"
fault_code (fault.NumberTooLarge place) = codes "NumberTooLarge"
fault_code (fault.NotAscii place) = codes "NotAscii"
fault_code (fault.TooLong place) = codes "TooLong"
fault_code fault.OutOfMemory = codes "OutOfMemory"

-- the place of a fault, if it has one
abbrev pub fault_place : PlanFault → Option ℕ
fault_place (fault.BadLine place) = Some place
fault_place (fault.TwoRoots place) = Some place
fault_place (fault.NumberTooLarge place) = Some place
fault_place (fault.NotAscii place) = Some place
fault_place _ = None

-- what is about a place of a text, or about the text as a whole where there is no place
abbrev pub IsAboutPlace : Source → Option ℕ → Where → Type 0
IsAboutPlace s None (Text source) = source.now ≡ s
IsAboutPlace s (Some place) (Place spot) = (spot.source.now ≡ s) × (spot.place ≡ min place (length s.lines))
IsAboutPlace s _ _ = ⊥

-- what is about a fault of a plan's text
abbrev pub IsAboutFault : Source → PlanFault → Where → Type 0
IsAboutFault s f about = IsAboutPlace s (fault_place f) about

-- the error of a fault
abbrev pub IsFaultError : Source → PlanFault → Diagnostic → Type 0
IsFaultError s f d = IsError (fault_code f) d × IsAboutFault s f d.about

-- a report of errors alone in each format
abbrev pub IsReportIn : Format → Bool → List Diagnostic → List ℕ → Type 0
IsReportIn format.Text is_coloured ds bytes = bytes ≡ written is_coloured (report_inks ds [] 0)
IsReportIn format.Short is_coloured ds bytes = bytes ≡ written false (flat_map head_inks ds)
IsReportIn format.Json is_coloured ds bytes = bytes ≡ explained_bytes None ds

-- the bytes that say why a plan's text is refused
abbrev pub IsRefusal : Source → PlanFault → ReportStyle → List ℕ → Type 0
IsRefusal s f style bytes = (d : Diagnostic) × IsFaultError s f d × IsReportIn style.format style.colour (d ∷ []) bytes
