use Rattle.std.proofs.Common.{◌≡◌, ◌++◌, take}
use Rattle.std.specs.List.{flat_map}
use Rattle.htn_model.specs.PlanFile.{IsWithoutRepeats}
use Rattle.plan_text.proofs.ids.add_children.Given as goal

abbrev pub invariant-loop-line : goal.invariant-loop-line
invariant-loop-line l = record {
  keys : l.ids.keys ≡ l.fn.ids.keys ++ flat_map (λ line. line.children) (take l.line-index l.lines);
  once : IsWithoutRepeats l.ids.keys;
}
