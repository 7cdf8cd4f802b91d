use Rattle.std.proofs.Common.{◌≡◌, ◌∙◌, ◌<◌, None, Some, ap, arith, get_or, length, sym}
use Rattle.htn_model.specs.Instances.{value_of}
use Rattle.htn_task.specs.Views.{term_of}
use Rattle.plan_lines.proofs.Exchanged.{any_default}
use Rattle.plan_lines.proofs.Narrowed.{opened}
use Rattle.plan_lines.proofs.given.bind.Goals as goal

pub returns-in-None-clause-narrows : goal.returns-in-None-clause-narrows
returns-in-None-clause-narrows c values =
    let given = c.args.given.now.items in
    let p = c.in-Parameter.place in
    let within : p < length given = omega (arith, c.if-place-len.false, c.len.ensures) in
    let none : get_or given p (Some 0) ≡ None = sym (c.index.ensures ∙ any_default given p c.index.result.now (Some 0) within) ∙ c.in-None.is in
    let at : value_of values (term_of c.args.term) ≡ get_or values p 0 = ap (λ x. value_of values (term_of x)) c.in-Parameter.is in
    let o = opened given p c.args.object within none values in
    (λ h. let r = o.0 h in (r.0, at ∙ r.1), λ h. o.1 (h.0, sym at ∙ h.1))
