use Rattle.std.proofs.Common.{◌≡◌, drop}
use Rattle.std.specs.List.{list_any}
use Rattle.htn_task.specs.Formulas.{formulas_view}
use Rattle.htn_ground.specs.Shown.{stands_in}
use Rattle.htn_ground.proofs.shown.+stands_in.Given as goal

abbrev pub invariant-loop-part : goal.invariant-loop-part
invariant-loop-part l = list_any (stands_in l.place) (formulas_view (drop l.part-index l.part-items)) ≡ list_any (stands_in l.place) (formulas_view l.part-items)
