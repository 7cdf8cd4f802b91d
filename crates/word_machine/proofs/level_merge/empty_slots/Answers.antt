use Rattle.std.proofs.Common.{◌++◌, [], ◌∷◌, None, ap, ◌∙◌}
use Rattle.std.proofs.lemmas.List.{replicate-append-replicate}
use Rattle.word_machine.proofs.level_merge.empty_slots.Goals as goal

pub loop-preserved : goal.loop-preserved
loop-preserved g c = c.in_ok-push.ensures.items ∙ (ap (λ l. l ++ None ∷ []) c.loop.invariant ∙ replicate-append-replicate c.loop.counter 1 None)
