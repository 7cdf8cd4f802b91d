use Rattle.room_causes.proofs.Causes.{in_networks, unmet_found}
use Rattle.std.proofs.Common.{subst}
use Rattle.std.specs.Option.{MatchOption}
use Rattle.std.specs.Prelude.{⊤}
use Rattle.std.specs.Cow.{cow_slice_items}
use Rattle.room_causes.specs.Conflicts.{IsUnmetIn}
use Rattle.room_causes.proofs.unmet.unmet_of.Goals as goal

pub returns : goal.returns
returns g c =
    let l = g.L.PlanLines.lines c.args.lines.now in
    let instance = c.instance_at-instance.result.now in
    unmet_found l c.args.line c.args.from instance c.in_ok-found.found
    (c.in_ok-instances.ensures instance.network (in_networks (cow_slice_items c.in_ok-instances.instances) 0 instance c.instance_at-instance.ensures))
    (subst (λ n. MatchOption c.in_ok-found.found ⊤ (IsUnmetIn l instance c.args.from n)) c.actions.ensures c.in_ok-found.ensures)
