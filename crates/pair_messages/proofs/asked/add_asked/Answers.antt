use Rattle.std.proofs.Common.{IfSome, Option, subst, sym}
use Rattle.std.specs.List.{All}
use Rattle.std.proofs.lemmas.List.Elements.{All-push}
use Rattle.pair_messages.specs.declared.asked.Asked.{Asked}
use Rattle.pair_messages.specs.Notes.{IsAsked}
use Rattle.pair_messages.proofs.asked.add_asked.Goals as goal

pub returns-in_ok-push : goal.returns-in_ok-push
returns-in_ok-push c = λ n numbered among old.
    subst (All (IsAsked n)) (sym c.in_ok-push.ensures.items)
    (All-push (IsAsked n) c.args.pairs.now.items c.in-Some.pair old (subst (λ (o : Option Asked). IfSome o (IsAsked n)) c.in-Some.is (c.in_ok-found.ensures n numbered among)))
