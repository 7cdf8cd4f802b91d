use Rattle.std.proofs.Common.{subst}
use Rattle.std.specs.Option.{MatchOption}
use Rattle.std.specs.Prelude.{⊤}
use Rattle.room_causes.specs.Conflicts.{IsUnmetIn}
use Rattle.room_causes.proofs.Causes.{read_network}
use Rattle.room_causes.proofs.conflict.precondition_among.Goals as goal

pub returns-in-Some : goal.returns-in-Some
returns-in-Some g c =
    let l = g.L.PlanLines.lines c.args.lines.now in
    let instance = c.instance-item.result in (
      instance,
      c.requires.ones instance.network (read_network c.args.instances.now c.loop-instance.instance-index instance c.loop-instance-test.true c.instance-item.is),
      subst (λ r. MatchOption r ⊤ (IsUnmetIn l instance 0 l.actions)) c.in-Some.is
          (subst (λ n. MatchOption c.in_ok-found.found ⊤ (IsUnmetIn l instance 0 n)) c.actions.ensures c.in_ok-found.ensures),
    )
