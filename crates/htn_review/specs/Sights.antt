-- The parts of the run that draws a tree, before anything is written.
use Rattle.std.specs.Prelude.{◌≡◌, ◌⊎◌, ℕ, Bool, false, List, [], Option, Some, None, MatchOption}
use Rattle.std.specs.Io.KnownBytes.{Appends}
use Rattle.std.specs.List.{AllZip}
use Rattle.std.specs.declared.alloc.Global.{Global}
use Rattle.std.specs.declared.vec.Vec.{Vec}
use Rattle.htn_model.specs.PlanFile.{PlanFile, IsForest}
use Rattle.htn_model.specs.Grounding.{problem_of}
use Rattle.htn_model.specs.Verdict.{IsVerdict}
use Rattle.htn_ground.specs.Naming.{naming_of}
use Rattle.htn_verify.specs.Verdicts.{verdict_of}
use Rattle.hddl_words.specs.declared.domain.DomainText.{DomainText}
use Rattle.htn_model.specs.Task.{Task}
use Rattle.line_details.specs.Entries.{spans_of}
use Rattle.line_details.specs.declared.entry.Entry.{Entry}
use Rattle.plan_text.specs.FileText.{FileText}
use Rattle.plan_text.specs.Out.{TakesBeginning}
use Rattle.check_report.specs.Told.{Named}
use Rattle.diagnostics.specs.declared.format.Format.TheVariants.{Text}
use Rattle.htn_command.specs.declared.choice.Drawing.{Drawing}
use Rattle.htn_review.specs.Reads.{AreRead, IsReport, is_of_pair, report_options}
use Rattle.htn_review.specs.Details.{ShowsInstance}
use Rattle.htn_review.specs.Trees.{AreLinesIn, ArePicture, IsCaption, IsWritten, Shows, Subject}
use Rattle.picture_text.specs.Json.{json_bytes}
use Rattle.picture_text.specs.declared.caption.Caption.{Caption}
use Rattle.picture_text.specs.declared.detail.Detail.{Detail}
use Rattle.plan_picture.specs.declared.picture.Picture.{Picture}
use Rattle.htn_verify.specs.declared.verdict.Verdict.{Verdict}
use Rattle.htn_review.specs.Inputs as named
use Rattle.htn_review.specs.declared.outcome.RunFault.{RunFault}
use Rattle.htn_review.specs.declared.outcome.RunFault.TheVariants.{OutOfMemory}
use Rattle.htn_review.specs.declared.inputs.Inputs.{Inputs}
use Rattle.htn_review.specs.declared.sight.Sight.{Sight}
use Rattle.htn_review.specs.declared.texts.Pair.{Pair}
use Rattle.htn_review.specs.declared.tree.Drawn.{Drawn}
use Rattle.htn_review.specs.declared.tree.Drawn.TheVariants.{Judged, Refused}

-- the trees of two texts that fit together, and their task
abbrev pub IsPairOf : List ℕ → List ℕ → Pair → Type 0
IsPairOf domain problem pair = AreRead domain problem pair.domain pair.problem pair.task

-- the trees of two texts of some names that fit together, and a file that a third holds
pub record AreHeld (inputs : Inputs) (pair : Pair) (file : PlanFile) : Type 0 where
  pub of_pair : IsPairOf inputs.domain.text.now inputs.problem.text.now pair
  pub is_file : FileText file inputs.plan.text.now

-- a plan file of three texts, for the task of a pair
abbrev pub subject_of : Inputs → Pair → PlanFile → Verdict → Subject
subject_of inputs pair file v = record {
  domain = named.domain_of inputs;
  problem = named.problem_of inputs;
  plan = named.plan_of inputs;
  domain_tree = pair.domain;
  problem_tree = pair.problem;
  task = pair.task;
  file = file;
  verdict = v;
}

-- the verdict of a file for the task of a pair, and the picture of the file; none where its lines are no forest
pub record IsSight (inputs : Inputs) (pair : Pair) (file : PlanFile) (form : Drawing) (is_wanted : Bool) (s : Sight) : Type 0 where
  pub is_verdict : IsVerdict (naming_of pair.task) (problem_of pair.task) file (verdict_of s.verdict)
  pub is_picture : MatchOption s.picture (IsForest file → ⊥) (λ bytes. ArePicture form is_wanted (subject_of inputs pair file s.verdict) bytes.items)

-- the verdict and the picture of the file that a text holds
abbrev pub IsSightOfText : Inputs → Pair → Drawing → (is_wanted : Bool) → Sight → Type 0
IsSightOfText inputs pair form is_wanted s = (file : PlanFile) × FileText file inputs.plan.text.now × IsSight inputs pair file form is_wanted s

-- the bytes of a picture; nothing where there is none
abbrev pub bytes_of : Option (Vec ℕ Global) → List ℕ
bytes_of None = []
bytes_of (Some bytes) = bytes.items

-- the verdict of the plan's text, and its picture
abbrev pub IsSightOfTexts : Inputs → Drawing → (is_wanted : Bool) → Sight → Type 0
IsSightOfTexts inputs form is_wanted s =
    Shows (named.domain_of inputs) (named.problem_of inputs) (named.plan_of inputs) form is_wanted s.verdict (bytes_of s.picture)

-- the picture was added to the output
abbrev pub IsShown : Sight → Drawn → Option (List ℕ) → Option (List ℕ) → Type 0
IsShown s drawn old new = (drawn ≡ Judged s.verdict) × Appends old new (bytes_of s.picture)

-- a beginning of the picture was added to the output
abbrev pub IsBegun : Sight → Option (List ℕ) → Option (List ℕ) → Type 0
IsBegun s old new = TakesBeginning old new (bytes_of s.picture)

-- the report on two texts
abbrev pub IsReported : Named → Named → Bool → Drawn → Type 0
IsReported domain problem is_coloured (Judged v) = ⊥
IsReported domain problem is_coloured (Refused report) = IsReport domain problem (report_options Text is_coloured) report.items

-- the fault is unchanged, and is not of the pair; or memory was refused
abbrev pub IsLeft : RunFault → RunFault → Type 0
IsLeft fault new = (new ≡ OutOfMemory) ⊎ ((new ≡ fault) × (is_of_pair fault ≡ false))

-- the picture with its caption, and what is shown of a solution
abbrev pub AreCaptioned : Subject → Option (List Detail) → Drawing → Picture → List ℕ → Type 0
AreCaptioned s found form picture bytes = (caption : Caption) × IsCaption s.domain_tree s.problem_tree s.verdict caption × IsWritten form s caption found picture bytes

-- a picture as JSON, with the lines of the plan's text
abbrev pub IsJsonOf : (plan : List ℕ) → Caption → Option (List Detail) → Picture → List ℕ → Type 0
IsJsonOf plan caption found picture bytes = (lines : List ℕ) × AreLinesIn plan picture.file.now lines × (bytes ≡ json_bytes caption lines found picture)

-- a detail for each entry, which shows its instance
abbrev pub ShowEntries : DomainText → Task → List Entry → List Detail → Type 0
ShowEntries d t entries found = AllZip (λ e x. ShowsInstance d t e.instance ((spans_of e).start 0) x) entries found
