use Rattle.std.proofs.Common.{◌∙◌, ap, option_and_then, slice_get, sym}
use Rattle.hddl_meaning.specs.Items.{variable_in}
use Rattle.hddl_scope.specs.InForce.{variables_of}
use Rattle.hddl_scope.specs.Scopes.{has_text}
use Rattle.hddl_scope.proofs.Positions.{found_by_position}
use Rattle.hddl_scope.proofs.in_force.Scope.get.Goals as goal

pub returns : goal.returns
returns c =
    let t = c.args.text.now in
    let vs = variables_of c.self.inside.entries.items in
    c.at.ensures ∙ ap (λ l. option_and_then (slice_get l) c.get.result) (sym c.self.view_is)
    ∙ ap (option_and_then (slice_get vs)) (c.get.ensures ∙ c.self.invariant.whole.positions t)
    ∙ found_by_position (has_text t) vs ∙ ap (λ l. variable_in l t) c.self.view_is
