use Rattle.std.proofs.Common.{◌≡◌, map, take}
use Rattle.std.specs.List.{filter}
use Rattle.htn_model.specs.Grounding.{is_changed}
use Rattle.plan_findings.proofs.run.initial_fluents.Given as goal

abbrev pub invariant-loop-atom : goal.invariant-loop-atom
invariant-loop-atom l = map (λ a. a.now) l.atoms.items ≡ filter (λ a. is_changed l.task a.predicate) (take l.atom-index l.atom-items)
