use Rattle.std.proofs.Common.{◌≡◌, ◌∙◌, ℕ, List, [], ◌∷◌, ◌++◌, ap, refl, sym, subst, arith, length}
use Rattle.std.proofs.lemmas.List.{length-append}
use Rattle.hddl_names.specs.Heads.{head_at}
use Rattle.hddl_names.proofs.Heads.{own_push}
use Rattle.hddl_names.proofs.condensed.own_heads.Goals as goal

pub loop-number-preserved : goal.loop-number-preserved
loop-number-preserved c =
    let old = c.loop-number.heads.items in
    let n = c.loop-number.number in
    let pushed = c.in_ok-push.ensures.items in
    let size = c.loop-number.invariant.size in
    record {
      size = ap length pushed ∙ length-append old (n ∷ []) ∙ omega (arith, size);
      own = λ t. subst (λ (hs : List ℕ). head_at hs t ≡ t) (sym pushed) (own_push old n size c.loop-number.invariant.own t);
    }
