-- The answer of a run that draws a tree, for a domain's, a problem's and a plan's text, and the text that it writes.
use Rattle.std.specs.Prelude.{◌≡◌, ℕ, Bool, true, false, nat_le, List, [], ◌++◌, drop, length, Option, Some, None, codes, map, option_map, ⊤}
use Rattle.std.specs.Option.{option_copied}
use Rattle.hddl_words.specs.declared.domain.DomainText.{DomainText}
use Rattle.hddl_words.specs.declared.problem.ProblemText.{ProblemText}
use Rattle.htn_model.specs.PlanFile.{PlanFile}
use Rattle.htn_model.specs.Task.{Task}
use Rattle.htn_model.specs.Grounding.{problem_of}
use Rattle.htn_model.specs.Verdict.{IsVerdict}
use Rattle.htn_ground.specs.Naming.{naming_of}
use Rattle.htn_verify.specs.Verdicts.{verdict_of}
use Rattle.htn_verify.specs.declared.verdict.Verdict.{Verdict}
use Rattle.htn_verify.specs.declared.verdict.Verdict.TheVariants.{Structure, NoInstance, NotExecutable, Valid}
use Rattle.plan_text.specs.FileText.{FileText}
use Rattle.plan_text.specs.Places.{ArePlaces}
use Rattle.plan_text.specs.declared.places.LinePlaces.{LinePlaces}
use Rattle.plan_text.specs.Out.{TakesBeginning}
use Rattle.diagnostics.specs.Places.{position}
use Rattle.diagnostics.specs.Shown.{shown}
use Rattle.plan_picture.specs.Picture.{IsPictureOf}
use Rattle.plan_picture.specs.declared.picture.Picture.{Picture}
use Rattle.picture_text.specs.Dot.{dot_bytes}
use Rattle.picture_text.specs.Json.{json_bytes}
use Rattle.picture_text.specs.Text.{text_bytes}
use Rattle.picture_svg.specs.Svg.{IsSvgOf}
use Rattle.picture_html.specs.Page.{IsHtmlOf, max_run}
use Rattle.picture_html.specs.declared.remarks.Remarks.{Remarks}
use Rattle.plan_findings.specs.Causes.{tasks_of}
use Rattle.plan_findings.specs.Runs.{IsRunOf}
use Rattle.plan_causes.specs.declared.run.Run.{Run}
use Rattle.plan_report.specs.declared.report.ReportStyle.{ReportStyle}
use Rattle.picture_text.specs.declared.as_text.Glyphs.TheVariants.{Unicode, Ascii}
use Rattle.picture_text.specs.declared.caption.Caption.{Caption}
use Rattle.picture_text.specs.declared.caption.Mark.{Mark}
use Rattle.picture_text.specs.declared.detail.Detail.{Detail}
use Rattle.diagnostics.specs.declared.format.Format.TheVariants as format
use Rattle.check_report.specs.Told.{Named}
use Rattle.htn_command.specs.declared.choice.Drawing.{Drawing}
use Rattle.htn_command.specs.declared.choice.Drawing.TheVariants as drawing
use Rattle.htn_review.specs.Details.{ShowSolution}
use Rattle.htn_review.specs.Explaining.{Says}
use Rattle.htn_review.specs.Judgement.{RefusesPlan, verdict_text}
use Rattle.htn_review.specs.Reads.{AreRead, IsRefusal, report_options}
use Rattle.htn_review.specs.declared.outcome.RunFault.{RunFault}
use Rattle.htn_review.specs.declared.outcome.RunFault.TheVariants as fault
use Rattle.htn_review.specs.declared.tree.Drawn.{Drawn}
use Rattle.htn_review.specs.declared.tree.Drawn.TheVariants.{Judged, Refused}
use Rattle.htn_review.specs.declared.tree.Look.{Look}

-- ## The caption of a picture

-- a mark, with what it holds
abbrev pub seen_mark : Mark → ℕ × List ℕ
seen_mark mark = (mark.id, mark.cause.now)

-- the line that a verdict names, with the verdict's name
abbrev pub mark_of : Verdict → Option (ℕ × List ℕ)
mark_of (NoInstance (Some id)) = Some (id, codes "NoInstance")
mark_of (NotExecutable id) = Some (id, codes "NotExecutable")
mark_of _ = None

-- the names of the domain and the problem, the verdict's line without its line feed, and the line that it names
pub record IsCaption (d : DomainText) (p : ProblemText) (v : Verdict) (caption : Caption) : Type 0 where
  pub of_domain : caption.domain.now ≡ map shown d.name.text
  pub of_problem : caption.problem.now ≡ map shown p.name.text
  pub of_verdict : caption.verdict.now ++ codes "\n" ≡ verdict_text v
  pub of_mark : option_map seen_mark caption.mark ≡ mark_of v

-- ## What is drawn

-- a plan with its texts, what these hold, and its verdict
pub record Subject : Type 0 where
  pub domain : Named
  pub problem : Named
  pub plan : Named
  pub domain_tree : DomainText
  pub problem_tree : ProblemText
  pub task : Task
  pub file : PlanFile
  pub verdict : Verdict

-- ## What is said beside the forest

-- how a page says why a verdict is so
abbrev pub page_style : ReportStyle
page_style = record { format = format.Text; has_states = false; colour = false }

-- whether a page has the run: if the lines have one, and the actions are not too many
abbrev pub has_run : Verdict → ℕ → Bool
has_run Structure actions = false
has_run (NoInstance line) actions = false
has_run _ actions = nat_le actions max_run

-- the run of the action lines of a file, or none
abbrev pub IsRunIf : Task → PlanFile → Bool → Option Run → Type 0
IsRunIf task file true (Some r) = IsRunOf task (tasks_of task file) r
IsRunIf task file true None = ⊥
IsRunIf task file false r = r ≡ None

-- what is said of a plan: what its explanation says after the line of the verdict, and its run
pub record AreRemarks (s : Subject) (r : Remarks) : Type 0 where
  pub text : List ℕ
  pub says : Says s.domain s.problem s.plan page_style s.verdict text
  pub why : r.why.now ≡ drop (length (verdict_text s.verdict)) text
  pub run : IsRunIf s.task s.file (has_run s.verdict (length s.file.actions)) (option_copied r.run)

-- whether a picture shows what a solution says of the lines: in text where that is wanted
abbrev pub has_details : Drawing → (is_wanted : Bool) → Bool
has_details drawing.Text is_wanted = is_wanted
has_details drawing.Ascii is_wanted = is_wanted
has_details drawing.Json is_wanted = true
has_details drawing.Dot is_wanted = false
has_details drawing.Svg is_wanted = true
has_details drawing.Html is_wanted = true

-- what is shown of a solution, if anything is: that of a valid plan is one whose shadow the plan is
abbrev pub AreDetailsOf : DomainText → Task → PlanFile → Verdict → Option (List Detail) → Type 0
AreDetailsOf d task file v None = ⊤
AreDetailsOf d task file v (Some found) = (v ≡ Valid) × ShowSolution d task file found

-- the same of a picture that shows details, and nothing of another
abbrev pub AreDetailsIf : Bool → DomainText → Task → PlanFile → Verdict → Option (List Detail) → Type 0
AreDetailsIf true d task file v found = AreDetailsOf d task file v found
AreDetailsIf false d task file v found = found ≡ None

-- the lines of a text on which a file's lines stand, those of its actions and then those of its decompositions
pub record AreLinesIn (text : List ℕ) (file : PlanFile) (lines : List ℕ) : Type 0 where
  pub places : LinePlaces
  pub are : ArePlaces file text places
  pub lines_are : lines ≡ map (λ place. (position text place).line) (places.actions.items ++ places.decompositions.items)

-- ## The picture

-- the bytes of a picture in each form, with what is shown of a solution
abbrev pub IsWritten : Drawing → Subject → Caption → Option (List Detail) → Picture → List ℕ → Type 0
IsWritten drawing.Text s caption found picture bytes = bytes ≡ text_bytes Unicode caption found picture
IsWritten drawing.Ascii s caption found picture bytes = bytes ≡ text_bytes Ascii caption found picture
IsWritten drawing.Json s caption found picture bytes =
    (lines : List ℕ) × AreLinesIn s.plan.bytes s.file lines × (bytes ≡ json_bytes caption lines found picture)
IsWritten drawing.Dot s caption found picture bytes = bytes ≡ dot_bytes caption picture
IsWritten drawing.Svg s caption found picture bytes = IsSvgOf caption found picture bytes
IsWritten drawing.Html s caption found picture bytes =
    (r : Remarks) × AreRemarks s r × (option_map (λ d. d.now) r.details ≡ found) × IsHtmlOf caption r picture bytes

-- the bytes of a picture with its caption
abbrev pub AreDrawn : Drawing → (is_wanted : Bool) → Subject → Picture → List ℕ → Type 0
AreDrawn form is_wanted s picture bytes =
    (caption : Caption) × IsCaption s.domain_tree s.problem_tree s.verdict caption
    × (found : Option (List Detail)) × AreDetailsIf (has_details form is_wanted) s.domain_tree s.task s.file s.verdict found
    × IsWritten form s caption found picture bytes

-- the bytes of the picture of a file's forest
abbrev pub ArePicture : Drawing → (is_wanted : Bool) → Subject → List ℕ → Type 0
ArePicture form is_wanted s bytes = (picture : Picture) × IsPictureOf s.file picture × AreDrawn form is_wanted s picture bytes

-- the bytes of the picture of a file with a verdict; nothing where the file's lines are no forest
abbrev pub IsDrawn : Drawing → (is_wanted : Bool) → Verdict → Subject → List ℕ → Type 0
IsDrawn form is_wanted Structure s bytes = bytes ≡ []
IsDrawn form is_wanted v s bytes = ArePicture form is_wanted s bytes

-- the plan's text holds a file of this verdict for the task of the two texts, and this is its picture
pub record Shows (domain problem plan : Named) (form : Drawing) (is_wanted : Bool) (v : Verdict) (bytes : List ℕ) : Type 0 where
  pub domain_tree : DomainText
  pub problem_tree : ProblemText
  pub task : Task
  pub are_read : AreRead domain.bytes problem.bytes domain_tree problem_tree task
  pub file : PlanFile
  pub is_file : FileText file plan.bytes
  pub is_verdict : IsVerdict (naming_of task) (problem_of task) file (verdict_of v)
  pub is_drawn : IsDrawn form is_wanted v (record {
    domain = domain;
    problem = problem;
    plan = plan;
    domain_tree = domain_tree;
    problem_tree = problem_tree;
    task = task;
    file = file;
    verdict = v;
  }) bytes

-- ## Refusals

-- a fault is of the plan
abbrev pub IsOfPlan : RunFault → Type 0
IsOfPlan (fault.Plan f) = ⊤
IsOfPlan _ = ⊥

-- the result of the run, and the text that it added to the output
abbrev pub Draws : Named → Named → Named → Look → Drawn → List ℕ → Type 0
Draws domain problem plan look (Judged v) text = Shows domain problem plan look.drawing look.has_details v text
Draws domain problem plan look (Refused report) text = IsRefusal domain problem plan.bytes (report_options format.Text look.colour) report.items × (text ≡ [])

-- why there is neither a picture nor a report: the plan's text is refused, or memory was
abbrev pub IsUndrawn : List ℕ → List ℕ → List ℕ → RunFault → Type 0
IsUndrawn domain problem plan (fault.Plan f) = RefusesPlan domain problem plan (fault.Plan f)
IsUndrawn domain problem plan fault.OutOfMemory = ⊤
IsUndrawn domain problem plan _ = ⊥

-- a beginning of the picture was added to the output
abbrev pub IsPictureCutShort : Named → Named → Named → Drawing → (is_wanted : Bool) → Option (List ℕ) → Option (List ℕ) → Type 0
IsPictureCutShort domain problem plan form is_wanted old new =
    (v : Verdict) × (text : List ℕ) × Shows domain problem plan form is_wanted v text × TakesBeginning old new text
