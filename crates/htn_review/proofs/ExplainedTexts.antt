-- What is said of a plan's text, as what is said of three texts.
use Rattle.std.proofs.Common.{inl, inr, subst, sym}
use Rattle.plan_report.specs.declared.report.ReportStyle.{ReportStyle}
use Rattle.htn_review.specs.Explaining.{Explains}
use Rattle.htn_review.specs.Explanations as spec
use Rattle.htn_review.specs.Inputs.{domain_of, plan_of, problem_of}
use Rattle.htn_review.specs.Sights.{IsPairOf}
use Rattle.htn_review.specs.declared.explanation.Explanation.{Explanation}
use Rattle.htn_review.specs.declared.inputs.Inputs.{Inputs}
use Rattle.htn_review.specs.declared.texts.Pair.{Pair}
use Rattle.htn_review.proofs.Sighting.{pair_has_task}

-- what is said of a plan's text for a pair is said of the three texts
pub text_explains : (inputs : Inputs) (style : ReportStyle) (pair : Pair) (x : Explanation) → IsPairOf inputs.domain.text.now inputs.problem.text.now pair
    → spec.IsExplainedText inputs style x → Explains (domain_of inputs) (problem_of inputs) (plan_of inputs) style x.came x.text.items
text_explains inputs style pair x of_pair (inl refused) =
    subst (λ came. Explains (domain_of inputs) (problem_of inputs) (plan_of inputs) style came x.text.items) (sym refused.came)
    (inr (record {
      cause = refused.cause;
      refuses = (pair.task, pair_has_task inputs.domain.text.now inputs.problem.text.now pair of_pair, refused.faulty);
      source = refused.source;
      is_plan = refused.is_plan;
      report = refused.report;
    }))
text_explains inputs style pair x of_pair (inr explained) =
    subst (λ came. Explains (domain_of inputs) (problem_of inputs) (plan_of inputs) style came x.text.items) (sym explained.came) explained.says
