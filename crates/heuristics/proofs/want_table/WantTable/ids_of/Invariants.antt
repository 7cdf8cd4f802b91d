use Rattle.std.proofs.Common.{◌≡◌, Bool, take}
use Rattle.std.specs.List.{list_all}
use Rattle.heuristics.specs.ListedNeeds.{all_pass, AreIds, AreMoreWants}
use Rattle.heuristics.specs.declared.wants.Want.{Want}
use Rattle.heuristics.proofs.want_table.WantTable.ids_of.Given as goal

-- the ids of the wants so far
abbrev pub invariant-loop-want : goal.invariant-loop-want
invariant-loop-want l = record {
  more : AreMoreWants l.initial.self.wants.items l.self.wants.items;
  ids : AreIds l.self.wants.items l.ids.items;
  passes : (test : Want → Bool) → all_pass test l.self.wants.items l.ids.items ≡ list_all test (take l.want-index l.wants);
}
