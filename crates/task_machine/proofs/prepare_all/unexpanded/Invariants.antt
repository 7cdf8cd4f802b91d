use Rattle.std.proofs.Common.{◌≡◌, All, Contains, None, take}
use Rattle.network_table.specs.Networks.{expansion_at, Knows}
use Rattle.task_machine.specs.declared.configuration.Configuration.{Configuration}
use Rattle.task_machine.proofs.prepare_all.unexpanded.Given as goal

-- those of the configurations so far are noted
abbrev pub invariant-loop-configuration : goal.invariant-loop-configuration
invariant-loop-configuration l = record {
  known : All (Knows l.networks) l.todo.keys;
  all : All (λ (c : Configuration). expansion_at l.networks c.network ≡ None → Contains l.todo.keys c.network) (take l.configuration-index l.at);
}
