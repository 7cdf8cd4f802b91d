use Rattle.std.proofs.Common.{◌≡◌, map, take}
use Rattle.hddl_meaning.specs.Building as building
use Rattle.htn_task.specs.Views as views
use Rattle.hddl_build.proofs.term.terms_of.Given as goal

abbrev pub invariant-loop-term : goal.invariant-loop-term
invariant-loop-term l = views.terms_of l.found.items ≡ map (building.term_of l.vocabulary l.scope) (take l.term-index l.terms)
