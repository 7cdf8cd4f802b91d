use Rattle.std.proofs.Common.{All, subst, sym}
use Rattle.std.proofs.lemmas.List.Elements.{All-push}
use Rattle.never_applied.specs.Stages.{IsMethodUnused}
use Rattle.never_applied.specs.declared.answer.Unused.{Unused}
use Rattle.never_applied.proofs.unused.Search.unused_methods.Goals as goal

pub loop-candidate-preserved : goal.loop-candidate-preserved
loop-candidate-preserved c =
    let test = λ (x : Unused). IsMethodUnused c.args.self.now.usable.now x.place in
    subst (All test) (sym c.in_ok-push.ensures.items) (All-push test _ _ c.loop-candidate.invariant (c.uses_method-is_used.ensures c.if-is_used.false))
