use Rattle.std.proofs.Common.{◌∙◌, List, ap, take}
use Rattle.hddl_meaning.specs.Mentions.{Text}
use Rattle.hddl_build.specs.Scopes.{texts_of}
use Rattle.hddl_build.proofs.Variables.{texts_taken}
use Rattle.hddl_build.proofs.scope.Scope.truncate.Goals as goal

pub returns : goal.returns
returns c = ap texts_of c.truncate.ensures ∙ texts_taken c.args.len c.self.inside.variables ∙ ap (λ (l : List Text). take c.args.len l) c.self.view_is
