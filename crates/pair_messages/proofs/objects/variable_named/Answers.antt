use Rattle.std.proofs.Common.{subst, sym}
use Rattle.std.specs.List.{All}
use Rattle.std.proofs.lemmas.List.Elements.{All-contains}
use Rattle.hddl_meaning.specs.Mentions.{IsIn, folded}
use Rattle.pair_messages.specs.Bindings.{IsBindingIn}
use Rattle.pair_messages.specs.Offers.{variable_texts}
use Rattle.pair_messages.specs.Stands.{in_force}
use Rattle.pair_messages.proofs.objects.variable_named.Goals as goal

pub returns-then-is_variable_of : goal.returns-then-is_variable_of
returns-then-is_variable_of c =
    let names = variable_texts (in_force c.args.scope.now) in
    let all = subst (All (IsBindingIn names)) (sym c.as_slice-binding-items.ensures.value) c.in_ok-bindings.ensures in (
      subst (λ t. IsIn (folded t) names) (sym c.text-name.ensures.value)
          (All-contains (IsBindingIn names) c.as_slice-binding-items.result.now c.binding-item.result all (c.loop-binding.binding-index, c.loop-binding-test.true, sym c.binding-item.is)),
      c.is_variable_of.ensures c.if-is_variable_of.true,
    )
