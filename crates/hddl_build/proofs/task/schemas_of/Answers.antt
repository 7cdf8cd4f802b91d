use Rattle.std.proofs.Common.{◌∙◌, List, ap, map, subst}
use Rattle.std.specs.List.{AllZip}
use Rattle.hddl_words.specs.declared.domain.ActionText.{ActionText}
use Rattle.hddl_words.specs.declared.domain.MethodText.{MethodText}
use Rattle.hddl_meaning.specs.Building.{IsMethodOf, action_of}
use Rattle.hddl_build.proofs.task.schemas_of.Goals as goal

pub returns-clause-methods : goal.returns-clause-methods
returns-clause-methods c =
    subst (λ (l : List MethodText). AllZip (IsMethodOf c.args.vocabulary.now) l c.in_ok-methods.methods.items) c.as_slice.ensures c.in_ok-methods.ensures

pub returns-clause-actions : goal.returns-clause-actions
returns-clause-actions c = c.in_ok-actions.ensures ∙ ap (λ (l : List ActionText). map (action_of c.args.vocabulary.now) l) c.as_slice-2.ensures
