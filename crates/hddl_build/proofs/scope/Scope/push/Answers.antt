use Rattle.std.proofs.Common.{◌∙◌, ◌++◌, List, ap}
use Rattle.std.proofs.lemmas.Result.{on_ok_weaker}
use Rattle.hddl_meaning.specs.Building.{variables_of}
use Rattle.hddl_meaning.specs.Mentions.{Text}
use Rattle.hddl_build.specs.Scopes.{texts_of}
use Rattle.hddl_build.proofs.Variables.{texts_around}
use Rattle.hddl_build.proofs.scope.Scope.push.Goals as goal

pub returns-clause-ok : goal.returns-clause-ok
returns-clause-ok c =
    on_ok_weaker c.push_quantified.result
    (λ is. ap texts_of is ∙ texts_around c.self.inside.variables c.args.groups.now ∙ ap (λ (l : List Text). l ++ variables_of c.args.groups.now) c.self.view_is)
    c.push_quantified.ensures.ok
