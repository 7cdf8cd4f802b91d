use Rattle.std.proofs.Common.{◌++◌, ◌∙◌, ap, map}
use Rattle.std.specs.Prelude.{codes}
use Rattle.diagnostics.specs.Shown.{shown}
use Rattle.htn_review.proofs.sight.captioned.Goals as goal

pub picture_bytes-requires-clause-caption : goal.picture_bytes-requires-clause-caption
picture_bytes-requires-clause-caption c = record {
  of_domain = c.as_str.ensures.value ∙ c.in_ok-domain.ensures ∙ ap (map shown) c.text.ensures.value;
  of_problem = c.as_str-2.ensures.value ∙ c.in_ok-problem.ensures ∙ ap (map shown) c.text-2.ensures.value;
  of_verdict = ap (λ t. t ++ codes "\n") c.as_str-3.ensures.value ∙ c.in_ok-words.ensures;
  of_mark = c.mark_of-mark.ensures;
}

pub returns : goal.returns
returns c = (
  _,
  record {
    of_domain = c.as_str.ensures.value ∙ c.in_ok-domain.ensures ∙ ap (map shown) c.text.ensures.value;
    of_problem = c.as_str-2.ensures.value ∙ c.in_ok-problem.ensures ∙ ap (map shown) c.text-2.ensures.value;
    of_verdict = ap (λ t. t ++ codes "\n") c.as_str-3.ensures.value ∙ c.in_ok-words.ensures;
    of_mark = c.mark_of-mark.ensures;
  },
  c.in_ok-bytes.ensures,
)
