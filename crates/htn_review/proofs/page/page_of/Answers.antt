use Rattle.std.proofs.Common.{◌≡◌, ◌+◌, ◌++◌, ◌∙◌, ℕ, List, codes, drop, length, length-append, ap, sym, subst}
use Rattle.std.specs.Option.{option_copied}
use Rattle.htn_verify.specs.declared.verdict.Verdict.{Verdict}
use Rattle.htn_review.specs.Judgement.{verdict_text}
use Rattle.htn_review.specs.Trees.{IsRunIf, has_run}
use Rattle.htn_review.specs.Explaining.{Says}
use Rattle.htn_review.specs.Inputs.{domain_of, plan_of, problem_of}
use Rattle.htn_review.proofs.Refusing.{ok_more}
use Rattle.htn_review.proofs.page.page_of.Goals as goal

pub explain_verdict-requires-clause-pair : goal.explain_verdict-requires-clause-pair
explain_verdict-requires-clause-pair c = c.requires.held.of_pair

pub explain_verdict-requires-clause-file : goal.explain_verdict-requires-clause-file
explain_verdict-requires-clause-file c = c.requires.held.is_file

-- the line of a verdict is one longer than its words
after_line : (words : List ℕ) (v : Verdict) (text : List ℕ) → words ++ codes "\n" ≡ verdict_text v → drop (length words + 1) text ≡ drop (length (verdict_text v)) text
after_line words v text is = ap (λ n. drop n text) (sym (ap length (sym is) ∙ length-append words (codes "\n")))

pub returns-in-Some : goal.returns-in-Some
returns-in-Some c =
    let inputs = c.args.inputs in
    let words = c.args.caption.now.verdict.now in
    let file = c.args.file.now in
    let text = c.in_ok-text.text.items in
    let task = c.args.pair.now.task in
    let has = has_run c.args.known.verdict (length file.actions) in
    ok_more _ _ c.page_with_run.result
    (λ bytes h. (
      h.0,
      record {
        text = text;
        says = subst (λ style. Says (domain_of inputs) (problem_of inputs) (plan_of inputs) style c.args.known.verdict text) c.page_style-style.ensures c.in_ok-text.ensures;
        why = h.1 ∙ c.after-why.ensures ∙ ap (drop (length words + 1)) c.as_slice.ensures.value
            ∙ after_line words c.args.known.verdict text c.requires.caption.of_verdict;
        run = subst (λ r. IsRunIf task file has r) (sym h.2) (subst (λ r. IsRunIf task file has r) c.in-Some.is c.in_ok-run.ensures);
      },
      h.3,
      h.4,
    )) c.page_with_run.ensures

pub returns : goal.returns
returns c =
    let inputs = c.args.inputs in
    let words = c.args.caption.now.verdict.now in
    let file = c.args.file.now in
    let text = c.in_ok-text.text.items in
    let task = c.args.pair.now.task in
    let has = has_run c.args.known.verdict (length file.actions) in
    ok_more _ _ c.page_without_run.result
    (λ bytes h. (
      h.0,
      record {
        text = text;
        says = subst (λ style. Says (domain_of inputs) (problem_of inputs) (plan_of inputs) style c.args.known.verdict text) c.page_style-style.ensures c.in_ok-text.ensures;
        why = h.1 ∙ c.after-why.ensures ∙ ap (drop (length words + 1)) c.as_slice.ensures.value
            ∙ after_line words c.args.known.verdict text c.requires.caption.of_verdict;
        run = subst (λ r. IsRunIf task file has (option_copied r)) (sym h.2) (subst (λ r. IsRunIf task file has r) c.in-None.is c.in_ok-run.ensures);
      },
      h.3,
      h.4,
    )) c.page_without_run.ensures
