use Rattle.std.proofs.Common.{◌≡◌, drop}
use Rattle.std.specs.List.{list_all}
use Rattle.htn_model.specs.Instances.{is_among}
use Rattle.htn_task.specs.Views.{terms_of}
use Rattle.htn_ground.proofs.fixed.FixedLiteral.is_bound.Given as goal

abbrev pub invariant-loop-term : goal.invariant-loop-term
invariant-loop-term l = list_all (is_among l.count) (terms_of (drop l.term-index l.term-items)) ≡ list_all (is_among l.count) (terms_of l.term-items)
