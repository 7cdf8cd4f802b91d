use Rattle.std.proofs.Common.{◌∙◌, List, ap, map}
use Rattle.hddl_words.specs.declared.condition.EqualityText.{EqualityText}
use Rattle.hddl_meaning.specs.Building.{equality_of}
use Rattle.hddl_build.proofs.schema.body_of.Goals as goal

pub returns-clause-constraints : goal.returns-clause-constraints
returns-clause-constraints c =
    c.in_ok-constraints.ensures ∙ ap (λ (l : List EqualityText). map (equality_of c.args.vocabulary.now c.args.scope.now) l) c.as_slice.ensures
