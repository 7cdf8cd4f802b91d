use Rattle.std.proofs.Common.{◌≡◌, ◌∙◌, ◌++◌, ◌∷◌, [], List, None, Option, ap, arith, length, replicate, ℕ}
use Rattle.std.proofs.lemmas.List.{replicate-append-replicate}
use Rattle.plan_lines.proofs.instances.no_values.Goals as goal

pub loop-parameter-preserved : goal.loop-parameter-preserved
loop-parameter-preserved c =
    c.in_ok-push.ensures.items ∙ ap (λ (l : List (Option ℕ)). l ++ None ∷ []) c.loop-parameter.invariant ∙ replicate-append-replicate c.loop-parameter.parameter-index 1 None

pub returns : goal.returns
returns c =
    let e : c.loop-parameter.parameter-index ≡ length c.args.parameters.now = omega (arith, c.loop-parameter-test.false) in
    c.loop-parameter.invariant ∙ ap (λ (n : ℕ). replicate n None) e
