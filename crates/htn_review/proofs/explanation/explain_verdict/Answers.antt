use Rattle.std.proofs.Common.{◌∙◌, ◌++◌, IfNone, IfSome, Some, ap, codes, subst}
use Rattle.htn_model.specs.PlanFile.{PlanFile}
use Rattle.plan_text.specs.FileText.{FileText}
use Rattle.plan_text.specs.Places.{ArePlaces}
use Rattle.htn_review.proofs.explanation.explain_verdict.Goals as goal

pub returns : goal.returns
returns c =
    let text = c.args.inputs.plan.text.now in
    let found = subst (λ o. IfSome o (λ places. (file : PlanFile) → FileText file text → ArePlaces file text places)) c.in-Some.is c.in_ok-places.ensures.found in
    record {
      task = c.args.pair.now.task;
      texts = _;
      are_explained = record {
        is_domain = c.in_ok-domain.ensures;
        is_problem = ap Some c.in_ok-problem.ensures;
        is_plan = c.in_ok-plan.ensures;
        are_read = c.requires.pair;
        is_file = c.requires.file;
        are_places = found c.args.file.now c.requires.file;
      };
      is_verdict = c.requires.verdict;
      words = c.as_str.result.now;
      are_words = ap (λ w. w ++ codes "\n") c.as_str.ensures.value ∙ c.in_ok-words.ensures;
      is_said = c.in_ok-text.ensures;
    }

pub unreachable-requires : goal.unreachable-requires
unreachable-requires c =
    let text = c.args.inputs.plan.text.now in
    let none = subst (λ o. IfNone o ((file : PlanFile) → FileText file text → ⊥)) c.in_default.is c.in_ok-places.ensures.none in
    none c.args.file.now c.requires.file
