use Rattle.std.proofs.Common.{◌∙◌, List, ap, map}
use Rattle.hddl_words.specs.declared.domain.PredicateText.{PredicateText}
use Rattle.hddl_words.specs.declared.domain.TaskText.{TaskText}
use Rattle.hddl_meaning.specs.Building.{compound_of, predicate_of}
use Rattle.hddl_build.proofs.task.declared_of.Goals as goal

pub returns-clause-objects : goal.returns-clause-objects
returns-clause-objects c = c.in_ok-objects.ensures ∙ c.objects.ensures

pub returns-clause-predicates : goal.returns-clause-predicates
returns-clause-predicates c = c.in_ok-predicates.ensures ∙ ap (λ (l : List PredicateText). map (predicate_of c.args.vocabulary.now) l) c.as_slice.ensures

pub returns-clause-tasks : goal.returns-clause-tasks
returns-clause-tasks c = c.in_ok-tasks.ensures ∙ ap (λ (l : List TaskText). map (compound_of c.args.vocabulary.now) l) c.as_slice-2.ensures
