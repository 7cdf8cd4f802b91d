use Rattle.std.proofs.Common.{◌≡◌, ◌-◌, ◌<◌, List, ℕ, get_or, length, true}
use Rattle.htn_model.specs.Instances.{is_instance}
use Rattle.plan_lines.specs.Given.{Extends}
use Rattle.plan_lines.proofs.completion.+instance_from.Given as goal

abbrev pub decreases-instance_from : goal.decreases-instance_from
decreases-instance_from l = length l.given.now - l.from

-- no instance has one of the objects that were tried
abbrev pub invariant-loop-object : goal.invariant-loop-object
invariant-loop-object l =
    (values : List ℕ) → Extends values l.given → is_instance l.task l.conditions values ≡ true → (j : ℕ) → j < l.object-index → get_or values l.from 0 ≡ get_or l.objects j 0 → ⊥
