use Rattle.std.proofs.Common.{◌≡◌, ◌++◌, map, take, option_map}
use Rattle.hddl_meaning.specs.Mentions.{mention_of, variable_mention}
use Rattle.hddl_scope.proofs.in_force.Scope.push_group.Given as goal

abbrev pub invariant-loop-variable : goal.invariant-loop-variable
invariant-loop-variable l =
    l.self
    ≡ l.initial.self
    ++ map (λ x. record { typed = record { mention = variable_mention x; of_type = option_map mention_of l.group.of_type }; is_quantified = l.is_quantified })
    (take l.variable-index l.variable-items)
