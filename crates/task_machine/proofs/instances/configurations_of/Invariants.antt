use Rattle.std.proofs.Common.{◌≡◌, All, map, take}
use Rattle.htn_model.specs.Instance.{Instance}
use Rattle.network_table.specs.Networks.{Knows, network_at}
use Rattle.task_machine.specs.Growing.{IsWider}
use Rattle.task_machine.specs.declared.configuration.Configuration.{Configuration}
use Rattle.task_machine.specs.Owned.{HasSizes}
use Rattle.task_machine.proofs.instances.configurations_of.Given as goal

-- the configurations of the instances so far
abbrev pub invariant-loop-instance : goal.invariant-loop-instance
invariant-loop-instance l = record {
  wider : IsWider l.initial.networks l.networks;
  sized : HasSizes l.sizes l.networks;
  states : All (λ (c : Configuration). c.state ≡ l.state) l.configurations.items;
  known : All (λ (c : Configuration). Knows l.networks c.network) l.configurations.items;
  networks : map (λ (c : Configuration). network_at l.networks c.network) l.configurations.items ≡ map (λ (i : Instance). i.network) (take l.instance-index l.instances);
}
