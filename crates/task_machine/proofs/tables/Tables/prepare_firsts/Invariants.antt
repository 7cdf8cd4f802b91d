use Rattle.std.proofs.Common.{◌≡◌, All, take}
use Rattle.task_machine.specs.Blocks.{IsListed}
use Rattle.task_machine.specs.Owned.{HasSizes}
use Rattle.task_machine.specs.Tables.{AreLater, AreTables}
use Rattle.task_machine.specs.declared.prepare_all.Listed.{Listed}
use Rattle.task_machine.proofs.tables.Tables.prepare_firsts.Given as goal

-- those of the networks so far are listed
abbrev pub invariant-loop-one : goal.invariant-loop-one
invariant-loop-one l = record {
  owned : AreTables l.task l.self;
  sized : HasSizes l.sizes l.self.networks;
  later : AreLater l.initial.self l.self;
  needs : l.self.needs ≡ l.initial.self.needs;
  listed : All (λ (x : Listed). IsListed l.self x.network x.node) (take l.one-index l.block);
}
