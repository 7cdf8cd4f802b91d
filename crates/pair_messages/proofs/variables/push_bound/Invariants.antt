use Rattle.std.proofs.Common.{List, map}
use Rattle.std.specs.List.{All}
use Rattle.hddl_meaning.specs.Mentions.{Text, folded}
use Rattle.pair_messages.specs.Bindings.{AreAllIn, IsBindingIn}
use Rattle.pair_messages.proofs.variables.push_bound.Given as goal

abbrev pub invariant-loop-variable : goal.invariant-loop-variable
invariant-loop-variable l = (names : List Text) → All (IsBindingIn names) l.initial.bindings.items → AreAllIn (map (λ x. folded x.text) l.group.variables) names → All (IsBindingIn names) l.bindings.items
