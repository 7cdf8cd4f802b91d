use Rattle.std.proofs.Common.{◌∙◌, ap}
use Rattle.std.specs.List.{position}
use Rattle.hddl_scope.specs.Scopes.{has_text}
use Rattle.hddl_scope.proofs.in_force.Scope.position.Goals as goal

pub returns : goal.returns
returns c = c.get.ensures ∙ c.self.invariant.whole.positions c.args.text.now ∙ ap (λ vs. position (has_text c.args.text.now) vs) c.self.view_is
