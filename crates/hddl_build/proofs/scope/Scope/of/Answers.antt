use Rattle.std.proofs.Common.{◌∙◌, ap}
use Rattle.hddl_build.specs.Scopes.{texts_of}
use Rattle.hddl_build.proofs.Variables.{parameter_texts}
use Rattle.hddl_build.proofs.scope.Scope.of.Goals as goal

pub returns : goal.returns
returns c = ap texts_of c.in_ok-variables.ensures ∙ parameter_texts c.args.groups.now
