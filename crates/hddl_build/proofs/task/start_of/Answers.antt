use Rattle.std.proofs.Common.{◌∙◌, List, [], ap, map}
use Rattle.htn_model.specs.State.{set_of}
use Rattle.htn_model.specs.Instances.{ground_atom}
use Rattle.hddl_words.specs.declared.condition.Condition.{Condition}
use Rattle.hddl_words.specs.declared.term.AtomText.{AtomText}
use Rattle.hddl_meaning.specs.Building.{atom_of, formulas_of}
use Rattle.hddl_build.proofs.task.start_of.Goals as goal

pub returns-clause-atoms : goal.returns-clause-atoms
returns-clause-atoms c =
    c.in_ok-initial_atoms.ensures ∙ ap (λ (l : List AtomText). set_of (map (λ a. ground_atom [] (atom_of c.args.vocabulary.now [] a)) l)) c.as_slice.ensures

pub returns-clause-goal : goal.returns-clause-goal
returns-clause-goal c = c.in_ok-goal.ensures ∙ ap (λ (l : List Condition). formulas_of c.args.vocabulary.now [] l) c.as_slice-2.ensures
