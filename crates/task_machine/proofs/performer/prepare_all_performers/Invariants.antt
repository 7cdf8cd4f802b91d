use Rattle.std.proofs.Common.{◌≡◌, ℕ, All, IsSome, Some, take}
use Rattle.network_table.specs.Networks.{expansion_at}
use Rattle.network_table.specs.declared.expansion.Expansion.{Expansion}
use Rattle.state_table.specs.Table.{IsLater}
use Rattle.task_machine.specs.Tables.{ArePerformers, HasPerformers, slot}
use Rattle.task_machine.proofs.performer.prepare_all_performers.Given as goal

-- the nodes have theirs that go from the networks so far, and none is lost
abbrev pub invariant-loop-network : goal.invariant-loop-network
invariant-loop-network l = record {
  later : IsLater l.initial.atoms l.atoms;
  performers : ArePerformers l.task l.atoms l.networks l.performers.items;
  kept : (n : ℕ) → IsSome (slot l.initial.performers.items n) → IsSome (slot l.performers.items n);
  there : All (λ n. (e : Expansion) → expansion_at l.networks n ≡ Some e → HasPerformers l.performers.items e) (take l.network-index l.block);
}
