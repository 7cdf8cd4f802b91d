use Rattle.std.proofs.Common.{subst, sym}
use Rattle.std.specs.List.{All}
use Rattle.std.proofs.lemmas.List.Elements.{All-push}
use Rattle.hddl_meaning.specs.Mentions.{IsIn, folded}
use Rattle.hddl_meaning.proofs.Listed.{in_map}
use Rattle.pair_messages.specs.Bindings.{IsBindingIn}
use Rattle.pair_messages.proofs.variables.push_bound.Goals as goal

pub loop-variable-preserved : goal.loop-variable-preserved
loop-variable-preserved c =
    λ names old among.
    let vs = c.args.group.now.variables in
    let x = c.variable-item.result in
    let at : IsIn x vs = subst (λ xs. IsIn x xs) c.as_slice-variable-items.ensures (c.loop-variable.variable-index, c.loop-variable-test.true, sym c.variable-item.is) in
    subst (λ l. All (IsBindingIn names) l) (sym c.in_ok-push.ensures.items)
    (All-push (IsBindingIn names) c.loop-variable.bindings.items _ (c.loop-variable.invariant names old among) (among (folded x.text) (in_map (λ x. folded x.text) x vs at)))
