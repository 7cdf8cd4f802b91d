use Rattle.std.proofs.Common.{◌≡◌, ◌∷◌, [], ◌++◌, take}
use Rattle.std.specs.List.{flat_map}
use Rattle.htn_model.specs.PlanFile.{IsWithoutRepeats}
use Rattle.plan_text.proofs.ids.add_all.Given as goal

abbrev pub invariant-loop-id : goal.invariant-loop-id
invariant-loop-id l = record {
  keys : l.ids.keys ≡ l.fn.ids.keys ++ flat_map (λ id. id ∷ []) (take l.id-index l.more);
  once : IsWithoutRepeats l.ids.keys;
}
