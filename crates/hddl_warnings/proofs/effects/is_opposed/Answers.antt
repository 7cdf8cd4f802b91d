use Rattle.std.proofs.Common.{is_some, ap, ◌∙◌}
use Rattle.hddl_scope.specs.Numbers.{number_at}
use Rattle.hddl_warnings.proofs.effects.is_opposed.Goals as goal

pub returns : goal.returns
returns c = c.is_some.ensures ∙ ap is_some (c.get.ensures ∙ ap (number_at c.args.known.now) (c.deref.ensures.value ∙ c.in_ok-opposite.ensures))
