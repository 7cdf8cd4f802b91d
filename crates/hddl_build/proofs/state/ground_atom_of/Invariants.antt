use Rattle.std.proofs.Common.{◌≡◌, [], map, take}
use Rattle.htn_model.specs.Instances.{value_of}
use Rattle.hddl_meaning.specs.Building.{term_of}
use Rattle.hddl_build.proofs.state.ground_atom_of.Given as goal

abbrev pub invariant-loop-term : goal.invariant-loop-term
invariant-loop-term l = l.objects.items ≡ map (λ x. value_of [] (term_of l.vocabulary [] x)) (take l.term-index l.term-items)
