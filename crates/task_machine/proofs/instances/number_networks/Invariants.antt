use Rattle.std.proofs.Common.{map, take}
use Rattle.htn_model.specs.Instance.{Instance}
use Rattle.task_machine.specs.Growing.{IsWider, StandFor}
use Rattle.task_machine.specs.Owned.{HasSizes}
use Rattle.task_machine.proofs.instances.number_networks.Given as goal

-- the networks of the instances so far
abbrev pub invariant-loop-instance : goal.invariant-loop-instance
invariant-loop-instance l = record {
  wider : IsWider l.initial.networks l.networks;
  sized : HasSizes l.sizes l.networks;
  networks : StandFor l.networks l.found.items (map (λ (i : Instance). i.network) (take l.instance-index l.instances));
}
