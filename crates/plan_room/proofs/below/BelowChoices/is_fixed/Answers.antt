use Rattle.std.proofs.Common.{get_or, false, sym, ap, ◌∙◌}
use Rattle.plan_room.proofs.below.BelowChoices.is_fixed.Goals as goal

pub returns : goal.returns
returns g c is = c.requires.2.fixed c.args.position (ap (λ ys. get_or ys c.args.position false) (sym c.deref.ensures.value) ∙ sym c.flag_at.ensures ∙ is)
