use Rattle.std.proofs.Common.{◌≡◌, All, length}
use Rattle.std.specs.Vec.Iter.{into_iter_items}
use Rattle.task_machine.specs.Blocks.{AreListed, HoldsPart}
use Rattle.task_machine.proofs.prepare_all.list_block.Given as goal

-- the first ones are listed, and what is left are parts
abbrev pub invariant-loop-part : goal.invariant-loop-part
invariant-loop-part g l = record {
  parts : All (HoldsPart l.networks l.block) (into_iter_items l.part-iterator);
  listed : AreListed l.networks l.block l.listed.items;
}

-- those so far are listed
abbrev pub invariant-loop-place : goal.invariant-loop-place
invariant-loop-place g l = record {
  listed : AreListed l.networks l.block l.listed.items;
  count : length l.listed.items ≡ l.place;
}
