use Rattle.std.proofs.Common.{List}
use Rattle.std.specs.List.{All}
use Rattle.hddl_meaning.specs.Mentions.{Text}
use Rattle.pair_messages.specs.Bindings.{AreAllIn, IsBindingIn, group_texts}
use Rattle.pair_messages.proofs.variables.push_bindings.Given as goal

abbrev pub invariant-loop-group : goal.invariant-loop-group
invariant-loop-group l = (names : List Text) → All (IsBindingIn names) l.initial.bindings.items → AreAllIn (group_texts l.groups) names → All (IsBindingIn names) l.bindings.items
