use Rattle.std.proofs.Common.{◌≡◌, ℕ, ◌+◌, ◌∙◌, ◌++◌, ◌∷◌, [], ap, sym, List, length, arith}
use Rattle.std.specs.List.{enumerate_from}
use Rattle.std.proofs.lemmas.List.FromFn.{length-enumerate_from}
use Rattle.htn_ground.proofs.Numbered.{enumerate-append}
use Rattle.htn_model.specs.Instance.{Instance}
use Rattle.htn_net.proofs.choices.numbered.Goals as goal

pub loop-instance-preserved : goal.loop-instance-preserved
loop-instance-preserved c =
    let yielded = c.loop-instance.yielded in
    let x = c.in-Some.instance in
    let number : c.len-number.result ≡ 0 + length yielded = omega (arith, c.len-number.ensures, ap length c.loop-instance.invariant, length-enumerate_from 0 yielded) in
    c.in_ok-push.ensures.items ∙ ap (λ (l : List (ℕ × Instance)). l ++ (c.len-number.result, x) ∷ []) c.loop-instance.invariant
    ∙ ap (λ (n : ℕ). enumerate_from 0 yielded ++ (n, x) ∷ []) number ∙ sym (enumerate-append 0 yielded (x ∷ []))
