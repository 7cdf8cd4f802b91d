use Rattle.std.proofs.Common.{inl, subst, sym}
use Rattle.htn_review.specs.Checking.{domain_text, problem_text}
use Rattle.htn_review.specs.Explaining.{Explains, plan_text}
use Rattle.htn_review.proofs.ExplainedTexts.{text_explains}
use Rattle.htn_review.proofs.Judging.{refused_plan}
use Rattle.htn_review.proofs.Refusing.{ok_more}
use Rattle.htn_review.proofs.explanation.explanation_of.Goals as goal

pub returns-in-Ok-clause-explains : goal.returns-in-Ok-clause-explains
returns-in-Ok-clause-explains c =
    ok_more _ _ c.explain_plan.result
    (λ x h. text_explains (record { domain = c.args.domain; problem = c.args.problem; plan = c.args.plan }) c.args.style c.in-Ok.pair x c.in-Ok.ensures.pair h)
    c.explain_plan.ensures.explained

pub returns-in-Err-clause-explains : goal.returns-in-Err-clause-explains
returns-in-Err-clause-explains c =
    let domain = domain_text c.args.domain.name.now c.args.domain.text.now in
    let problem = problem_text c.args.problem.name.now c.args.problem.text.now in
    let plan = plan_text c.args.plan.name.now c.args.plan.text.now in
    ok_more _ _ c.report_pair.result
    (λ x h. subst (λ came. Explains domain problem plan c.args.style came x.text.items) (sym h.1)
    (inl (record {
      cause = c.in-Err.fault;
      of_pair = h.0;
      refuses = refused_plan c.args.domain.text.now c.args.problem.text.now c.args.plan.text.now c.in-Err.fault c.in-Err.ensures.refused;
      report = h.2;
    }))) c.report_pair.ensures.reported
