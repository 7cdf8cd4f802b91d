use Rattle.std.proofs.Common.{◌≡◌, drop}
use Rattle.std.specs.List.{list_any}
use Rattle.plan_lines.specs.Allowed.{ties}
use Rattle.plan_lines.proofs.completion.is_tied.Given as goal

abbrev pub invariant-loop-equality : goal.invariant-loop-equality
invariant-loop-equality l = list_any (ties l.given l.place) (drop l.equality-index l.equalities) ≡ list_any (ties l.given l.place) l.equalities
