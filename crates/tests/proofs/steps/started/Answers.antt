use Rattle.std.proofs.Common.{Contains, length, sym, subst, ◌∙◌}
use Rattle.std.proofs.lemmas.Bool.{ltb-true}
use Rattle.tests.proofs.steps.started.Goals as goal

pub start-requires : goal.start-requires
start-requires c =
    let items = c.deref.ensures.value ∙ c.in_ok-instances.ensures in
    subst (λ l. Contains l c.in-Some.instance.now) items
    (c.args.number, ltb-true c.args.number (length c.deref.result.now) (sym c.in-Some.ensures.lookup.0), sym c.in-Some.ensures.lookup.1)
