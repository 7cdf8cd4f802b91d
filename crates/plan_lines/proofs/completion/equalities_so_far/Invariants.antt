use Rattle.std.proofs.Common.{◌≡◌, drop}
use Rattle.std.specs.List.{list_all}
use Rattle.plan_lines.specs.Allowed.{equality_so_far}
use Rattle.plan_lines.proofs.completion.equalities_so_far.Given as goal

abbrev pub invariant-loop-equality : goal.invariant-loop-equality
invariant-loop-equality l = list_all (equality_so_far l.given) (drop l.equality-index l.equalities) ≡ list_all (equality_so_far l.given) l.equalities
