use Rattle.std.specs.List.{All}
use Rattle.pair_messages.specs.Bindings.{IsBindingIn}
use Rattle.pair_messages.specs.Offers.{variable_texts}
use Rattle.pair_messages.specs.Stands.{in_force}
use Rattle.pair_messages.proofs.variables.bindings_of.Given as goal

abbrev pub invariant-loop-groups : goal.invariant-loop-groups
invariant-loop-groups l = All (IsBindingIn (variable_texts (in_force l.scope))) l.bindings.items
