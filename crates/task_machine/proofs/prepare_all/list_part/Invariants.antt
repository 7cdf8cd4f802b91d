use Rattle.std.proofs.Common.{◌≡◌, ◌+◌, ◌++◌, All, length, take}
use Rattle.task_machine.specs.Blocks.{IsFirst, networks_of}
use Rattle.task_machine.specs.declared.prepare_all.Listed.{Listed}
use Rattle.task_machine.proofs.prepare_all.list_part.Given as goal

-- those so far are a part
abbrev pub invariant-loop-place : goal.invariant-loop-place
invariant-loop-place l = record {
  part : (take l.first l.block ++ networks_of l.listed.items ≡ take (l.first + length l.listed.items) l.block)
      × All (λ (x : Listed). IsFirst l.networks x.network x.node) l.listed.items;
  count : l.first + length l.listed.items ≡ l.place;
}
