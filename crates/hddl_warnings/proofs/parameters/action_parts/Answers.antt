use Rattle.hddl_warnings.proofs.Schemas.{HasParts-same, of_action}
use Rattle.std.proofs.Common.{refl}
use Rattle.hddl_warnings.proofs.parameters.action_parts.Goals as goal

pub returns : goal.returns
returns c =
    let old = c.in_ok-parts.parts in
    of_action old _ c.args.action.now (HasParts-same old _ _ c.as_slice.ensures c.in_ok-parts.ensures) c.in_ok-push_effects.ensures refl
