use Rattle.std.proofs.Common.{ℕ, All, IsSome, take}
use Rattle.state_table.specs.Table.{IsLater}
use Rattle.network_table.specs.declared.expansion.Removal.{Removal}
use Rattle.task_machine.specs.Tables.{ArePerformers, slot}
use Rattle.task_machine.proofs.performer.prepare_nodes.Given as goal

-- those that go have theirs so far, and none is lost
abbrev pub invariant-loop-removal : goal.invariant-loop-removal
invariant-loop-removal l = record {
  later : IsLater l.initial.atoms l.atoms;
  performers : ArePerformers l.task l.atoms l.networks l.performers.items;
  kept : (n : ℕ) → IsSome (slot l.initial.performers.items n) → IsSome (slot l.performers.items n);
  there : All (λ (r : Removal). IsSome (slot l.performers.items r.node)) (take l.removal-index l.removals);
}
