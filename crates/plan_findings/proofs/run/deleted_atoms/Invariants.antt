use Rattle.std.proofs.Common.{◌≡◌, ◌&&◌, map, not, take}
use Rattle.std.specs.List.{filter}
use Rattle.htn_model.specs.State.{contains}
use Rattle.plan_lines.specs.Turns.{truth}
use Rattle.plan_findings.proofs.run.deleted_atoms.Given as goal

abbrev pub invariant-loop-atom : goal.invariant-loop-atom
invariant-loop-atom l = map (λ a. a.now) l.atoms.items ≡ filter (λ a. not (contains l.action.adds a) && truth l.turns a l.gap) (take l.atom-index l.atom-items)
