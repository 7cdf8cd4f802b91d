use Rattle.std.proofs.Common.{◌≡◌, List, ℕ, map, take}
use Rattle.htn_model.specs.Instances.{value_of}
use Rattle.htn_task.specs.Views.{terms_of}
use Rattle.plan_lines.specs.Given.{Extends}
use Rattle.plan_lines.proofs.given.objects_at.Given as goal

abbrev pub invariant-loop-term : goal.invariant-loop-term
invariant-loop-term l = (values : List ℕ) → Extends values l.given → map (value_of values) (terms_of (take l.term-index l.terms)) ≡ l.objects
