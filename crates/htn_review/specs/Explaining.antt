-- The answer of an explanation for a domain's text, a problem's text and a plan's text, and the text that it writes.
use Rattle.std.specs.Prelude.{◌≡◌, ◌⊎◌, ℕ, List, ◌++◌, Option, Some, codes, option_map}
use Rattle.htn_model.specs.Task.{Task}
use Rattle.htn_model.specs.Grounding.{problem_of}
use Rattle.htn_model.specs.Verdict.{IsVerdict}
use Rattle.htn_ground.specs.Naming.{naming_of}
use Rattle.htn_verify.specs.Verdicts.{verdict_of}
use Rattle.htn_verify.specs.declared.verdict.Verdict.{Verdict}
use Rattle.plan_text.specs.declared.fault.PlanFault.{PlanFault}
use Rattle.plan_text.specs.FileText.{FileText}
use Rattle.plan_text.specs.Out.{TakesBeginning}
use Rattle.plan_text.specs.Places.{ArePlaces}
use Rattle.diagnostics.specs.declared.diagnostic.Role.TheVariants as role
use Rattle.diagnostics.specs.declared.diagnostic.Source.{Source}
use Rattle.check_report.specs.Told.{Named, named}
use Rattle.plan_messages.specs.declared.texts.PlanTexts.{PlanTexts}
use Rattle.plan_report.specs.Explained as report
use Rattle.plan_report.specs.declared.report.ReportStyle.{ReportStyle}
use Rattle.htn_review.specs.Reads.{AreRead, IsRefusal, report_options}
use Rattle.htn_review.specs.Judgement.{RefusesPlan, verdict_text}
use Rattle.htn_review.specs.declared.explain.Explained.{Explained}
use Rattle.htn_review.specs.declared.explain.Explained.TheVariants.{Judged, Refused}
use Rattle.htn_review.specs.declared.outcome.RunFault.TheVariants as fault

-- the text of a plan, with its name
abbrev pub plan_text : List ℕ → List ℕ → Named
plan_text name bytes = record { role = role.Plan; name = name; bytes = bytes }

-- these are the texts and what was read of them: the trees of the two, which have this task, and the plan's file with the
-- places of its lines
pub record AreExplained (domain problem plan : Named) (task : Task) (texts : PlanTexts) : Type 0 where
  pub is_domain : named texts.pair.domain.now ≡ domain
  pub is_problem : option_map (λ p. named p.now) texts.pair.problem ≡ Some problem
  pub is_plan : named texts.plan.text.now ≡ plan
  pub are_read : AreRead domain.bytes problem.bytes texts.pair.domain_tree.now texts.pair.problem_tree.now task
  pub is_file : FileText texts.plan.file.now plan.bytes
  pub are_places : ArePlaces texts.plan.file.now plan.bytes texts.plan.places.now

-- the plan's file has this verdict for the task of the two texts, and this text says it and why
pub record Says (domain problem plan : Named) (style : ReportStyle) (v : Verdict) (text : List ℕ) : Type 0 where
  pub task : Task
  pub texts : PlanTexts
  pub are_explained : AreExplained domain problem plan task texts
  pub is_verdict : IsVerdict (naming_of task) (problem_of task) texts.plan.file.now (verdict_of v)
  pub words : List ℕ
  pub are_words : words ++ codes "\n" ≡ verdict_text v
  pub is_said : report.IsExplanation task texts v words style text

-- the plan's text is refused, and these bytes say why
pub record IsPlanRefusal (domain problem plan : Named) (style : ReportStyle) (bytes : List ℕ) : Type 0 where
  pub cause : PlanFault
  pub refuses : RefusesPlan domain.bytes problem.bytes plan.bytes (fault.Plan cause)
  pub source : Source
  pub is_plan : named source ≡ plan
  pub report : report.IsRefusal source cause style bytes

-- the result of the run, and the text that it added to the output: the explanation, or why a text is refused
abbrev pub Explains : Named → Named → Named → ReportStyle → Explained → List ℕ → Type 0
Explains domain problem plan style (Judged v) text = Says domain problem plan style v text
Explains domain problem plan style Refused text =
    IsRefusal domain problem plan.bytes (report_options style.format style.colour) text ⊎ IsPlanRefusal domain problem plan style text

-- a beginning of that text was added to the output
abbrev pub IsExplanationCutShort : Named → Named → Named → ReportStyle → Option (List ℕ) → Option (List ℕ) → Type 0
IsExplanationCutShort domain problem plan style old new =
    (came : Explained) × (text : List ℕ) × Explains domain problem plan style came text × TakesBeginning old new text
