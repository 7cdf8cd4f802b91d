use Rattle.std.proofs.Common.{subst, ◌∙◌}
use Rattle.hddl_warnings.specs.Known.{Learns}
use Rattle.hddl_warnings.proofs.effects.learn_effect.Goals as goal

pub returns : goal.returns
returns c = subst (λ t. Learns c.args.known.now c.learn.new.known t) (c.deref.ensures.value ∙ c.in_ok-own.ensures) c.in_ok-learn.ensures
