use Rattle.std.proofs.Common.{◌∙◌, ap, length, subst, sym}
use Rattle.std.proofs.lemmas.Slice.Zip.{AllZip-long}
use Rattle.plan_messages.specs.Numbers.{HasSightings, IsSightingOf}
use Rattle.plan_messages.specs.Mentions.{listed_at}
use Rattle.plan_messages.proofs.structure.listed_errors.Goals as goal

pub number_errors-requires : goal.number_errors-requires
number_errors-requires c =
    let p = c.args.plan.now in
    ap length c.as_slice.ensures.value ∙ AllZip-long (IsSightingOf p (listed_at p)) c.args.ids.now c.in_ok-seen.seen.items c.in_ok-seen.ensures

pub returns : goal.returns
returns c =
    let p = c.args.plan.now in
    c.in_ok-errors.ensures (listed_at p) (subst (HasSightings p (listed_at p) c.args.ids.now) (sym c.as_slice.ensures.value) c.in_ok-seen.ensures)
