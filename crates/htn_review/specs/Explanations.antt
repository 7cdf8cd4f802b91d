-- The parts of an explanation, before anything is written.
use Rattle.std.specs.Prelude.{◌≡◌, ◌⊎◌, ℕ, List, Option, Some}
use Rattle.std.specs.Borrow.{Bor}
use Rattle.check_report.specs.Told.{Named}
use Rattle.check_report.specs.declared.texts.Input.{Input}
use Rattle.diagnostics.specs.declared.diagnostic.Role.{Role}
use Rattle.diagnostics.specs.declared.diagnostic.Source.{Source}
use Rattle.htn_model.specs.PlanFile.{PlanFile}
use Rattle.htn_model.specs.Task.{Task}
use Rattle.plan_text.specs.FileText.{FileText}
use Rattle.plan_text.specs.declared.fault.PlanFault.{PlanFault}
use Rattle.plan_report.specs.Explained as report
use Rattle.plan_report.specs.declared.report.ReportStyle.{ReportStyle}
use Rattle.htn_review.specs.Explaining.{Says}
use Rattle.htn_review.specs.Inputs.{domain_of, plan_of, problem_of}
use Rattle.htn_review.specs.Judgement.{IsFaultyPlan}
use Rattle.htn_review.specs.Sights.{IsPairOf}
use Rattle.htn_review.specs.declared.explain.Explained.TheVariants.{Judged, Refused}
use Rattle.htn_review.specs.declared.explanation.Explanation.{Explanation}
use Rattle.htn_review.specs.declared.inputs.Inputs.{Inputs}
use Rattle.htn_review.specs.declared.texts.Pair.{Pair}

-- a text of an input in a role
abbrev pub text_in : Role → Input → Named
text_in role i = record { role = role; name = i.name.now; bytes = i.text.now }

-- the plan's text holds no file, and these bytes say why
pub record IsRefused (plan : Named) (style : ReportStyle) (x : Explanation) : Type 0 where
  pub came : x.came ≡ Refused
  pub cause : PlanFault
  pub faulty : IsFaultyPlan plan.bytes cause
  pub source : Source
  pub is_plan : Rattle.check_report.specs.Told.named source ≡ plan
  pub report : report.IsRefusal source cause style x.text.items

-- the explanation of a file that the plan's text holds
pub record IsExplained (inputs : Inputs) (style : ReportStyle) (x : Explanation) : Type 0 where
  pub verdict : Rattle.htn_verify.specs.declared.verdict.Verdict.Verdict
  pub came : x.came ≡ Judged verdict
  pub says : Says (domain_of inputs) (problem_of inputs) (plan_of inputs) style verdict x.text.items

-- the explanation of a plan's text for a pair
abbrev pub IsExplainedText : Inputs → ReportStyle → Explanation → Type 0
IsExplainedText inputs style x = IsRefused (plan_of inputs) style x ⊎ IsExplained inputs style x
