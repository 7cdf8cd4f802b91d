use Rattle.std.proofs.Common.{◌≡◌, drop}
use Rattle.std.specs.List.{list_any}
use Rattle.htn_task.specs.Views.{terms_of}
use Rattle.htn_ground.specs.Shown.{is_parameter}
use Rattle.htn_ground.proofs.shown.stands_in_terms.Given as goal

abbrev pub invariant-loop-term : goal.invariant-loop-term
invariant-loop-term l = list_any (is_parameter l.place) (terms_of (drop l.term-index l.terms)) ≡ list_any (is_parameter l.place) (terms_of l.terms)
