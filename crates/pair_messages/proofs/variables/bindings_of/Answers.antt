use Rattle.std.proofs.Common.{[], List, subst, sym}
use Rattle.std.specs.Borrow.{Bor}
use Rattle.std.proofs.lemmas.List.Elements.{All-nil, All-same}
use Rattle.hddl_words.specs.declared.term.VariableGroup.{VariableGroup}
use Rattle.hddl_meaning.specs.Mentions.{IsIn}
use Rattle.pair_messages.specs.Bindings.{AreAllIn, IsBindingIn, group_texts}
use Rattle.pair_messages.specs.Offers.{variable_texts}
use Rattle.pair_messages.specs.Stands.{in_force}
use Rattle.pair_messages.proofs.Bound.{bound_in, own_in}
use Rattle.pair_messages.proofs.variables.bindings_of.Goals as goal

pub loop-groups-init : goal.loop-groups-init
loop-groups-init c =
    let names = variable_texts (in_force c.args.scope.now) in
    c.in_ok-push_bindings.ensures names (All-same (IsBindingIn names) _ [] c.new-bindings.ensures.items (All-nil (IsBindingIn names)))
    (subst (λ (groups : List VariableGroup). AreAllIn (group_texts groups) names) (sym c.parameters.ensures) (own_in c.args.scope.now))

pub loop-groups-preserved : goal.loop-groups-preserved
loop-groups-preserved c =
    let names = variable_texts (in_force c.args.scope.now) in
    let g = c.groups-item.result in
    let at = subst (λ (gs : List (Bor (List VariableGroup))). IsIn g gs) c.as_slice-groups-items.ensures.value (c.loop-groups.groups-index, c.loop-groups-test.true, sym c.groups-item.is) in
    c.in_ok-push_bindings-2.ensures names c.loop-groups.invariant (bound_in c.args.scope.now g at)
