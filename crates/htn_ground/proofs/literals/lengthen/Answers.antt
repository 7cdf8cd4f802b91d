use Rattle.std.proofs.Common.{◌∙◌, ◌++◌, ◌∷◌, List, [], ap, map, sym, ℕ}
use Rattle.htn_ground.proofs.Lists.{flat_map_more}
use Rattle.htn_ground.proofs.literals.lengthen.Goals as goal

pub loop-choice-preserved : goal.loop-choice-preserved
loop-choice-preserved c =
    let objects = c.args.objects.now in
    c.in_ok-push_longer.ensures
    ∙ ap (λ (l : List (List ℕ)). l ++ map (λ o. c.choice-item.result ++ o ∷ []) objects) c.loop-choice.invariant
    ∙ sym (flat_map_more (λ (choice : List ℕ). map (λ o. choice ++ o ∷ []) objects) c.args.choices.now c.loop-choice.choice-index c.choice-item.result c.loop-choice-test.true c.choice-item.is)
