use Rattle.std.proofs.Common.{◌≡◌, ◌++◌, map, take, option_map, false}
use Rattle.hddl_meaning.specs.Mentions.{mention_of, variable_mention}
use Rattle.hddl_scope.proofs.scope.push_group.Given as goal

abbrev pub invariant-loop-variable : goal.invariant-loop-variable
invariant-loop-variable l =
    l.parameters.items
    ≡ l.initial.parameters.items
    ++ map (λ x. record { typed = record { mention = variable_mention x; of_type = option_map mention_of l.group.of_type }; is_quantified = false })
    (take l.variable-index l.variable-items)
