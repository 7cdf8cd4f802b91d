use Rattle.htn_review.proofs.texts.domain_of.Goals as goal

pub returns-in_default : goal.returns-in_default
returns-in_default c = record {
  spelled = tt;
  refused = λ problem bounds. (c.in-Err.ensures.refused (λ e. c.in_default.not-OutOfMemory e), λ e. c.in_default.not-OutOfMemory e, c.in-Err.ensures.fault);
  named = λ problem. tt;
}
