use Rattle.std.proofs.Common.{◌∙◌, sym}
use Rattle.htn_ground.specs.Search.{relation_singles}
use Rattle.htn_ground.proofs.Allowed.{nothing-only}
use Rattle.htn_ground.proofs.counts.first_allowed.Goals as goal

pub returns-in-Some-clause-none : goal.returns-in-Some-clause-none
returns-in-Some-clause-none c =
    nothing-only (relation_singles c.args.relations.now c.args.values.now c.args.place) c.in-Some.object c.in-Some.ensures.some c.args.objects.now c.requires (sym c.is_allowed.ensures ∙ c.if-is_allowed.false)
