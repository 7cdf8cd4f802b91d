use Rattle.std.proofs.Common.{◌∷◌, [], inl, refl, rules, subst}
use Rattle.plan_messages.specs.Errors.{IsError}
use Rattle.plan_report.specs.Explained.{code_of}
use Rattle.plan_report.proofs.report.explain_reason.Goals as goal

pub returns : goal.returns
returns c =
    let d = c.in_ok-reason_error.field-0 in
    (d ∷ [], c.args.judged.left, inl (c.requires.reason, (d, refl, subst (λ code. IsError code d) c.code_of-code.ensures c.in_ok-reason_error.ensures), c.requires.whole), search rules)
