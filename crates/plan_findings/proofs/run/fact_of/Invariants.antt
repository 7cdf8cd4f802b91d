use Rattle.std.proofs.Common.{◌≡◌, ◌∷◌, map, take}
use Rattle.htn_ground.specs.Naming.{object_name}
use Rattle.plan_findings.specs.Words.{predicate_name}
use Rattle.plan_findings.proofs.run.fact_of.Given as goal

abbrev pub invariant-loop-object : goal.invariant-loop-object
invariant-loop-object l = map (λ w. w.now) l.words.items ≡ predicate_name l.task l.atom.predicate ∷ map (object_name l.task) (take l.object-index l.atom.arguments)
