use Rattle.std.proofs.Common.{length, sym, subst}
use Rattle.plan_room.specs.Placing.{IsSequence}
use Rattle.plan_room.specs.Matching.{IsSeating}
use Rattle.plan_room.specs.Links.{AreLinked}
use Rattle.plan_room.specs.Seats.{seating_of}
use Rattle.plan_room.specs.Trials.{IsTried}
use Rattle.plan_room.proofs.Joined.{is_seating}
use Rattle.plan_room.proofs.Reordered.{IsSound, from_gap}
use Rattle.plan_room.proofs.frames.work_of.Goals as goal

pub start-requires-clause-seating : goal.start-requires-clause-seating
start-requires-clause-seating g c =
    let l = g.L.PlanLines.lines c.args.lines.now in
    let network = c.args.instance.now.network in
    let gap = c.args.gap in
    subst (λ cs. IsSeating (seating_of l cs network c.deref-4.result.now gap)) (sym c.deref-3.ensures.value)
    (subst (λ s. IsSeating (seating_of l c.args.children.items network s gap)) (sym c.deref-4.ensures.value)
    (is_seating l c.args.children.items network c.in_ok-sequence.sequence.items gap c.requires.square c.requires.many
    (subst (λ o. IsSequence o c.in_ok-sequence.sequence.items) c.order.ensures c.in_ok-sequence.ensures.sequence) c.requires.within))

pub start-requires-clause-sound : goal.start-requires-clause-sound
start-requires-clause-sound g c =
    let l = g.L.PlanLines.lines c.args.lines.now in
    let network = c.args.instance.now.network in
    let gap = c.args.gap in
    let links = c.in_ok-links.links in
    subst (λ cs. IsSound l c.args.memo.now cs network c.deref-4.result.now gap links gap) (sym c.deref-3.ensures.value)
    (subst (λ s. IsSound l c.args.memo.now c.args.children.items network s gap links gap) (sym c.deref-4.ensures.value) (
      record { are_lines = c.requires.lines; low = c.requires.low; few = c.requires.few; square = c.requires.square },
      c.requires.memo,
      subst (λ s. AreLinked (seating_of l c.args.children.items network s gap) (length c.args.children.items) links) c.deref-2.ensures.value
          (subst (λ cs. AreLinked (seating_of l cs network c.deref-2.result.now gap) (length cs) links) c.deref.ensures.value (c.in_ok-links.ensures gap)),
      (λ h room. from_gap (seating_of l c.args.children.items network c.in_ok-sequence.sequence.items gap) h room),
    ))

pub returns : goal.returns
returns g c =
    let l = g.L.PlanLines.lines c.args.lines.now in
    let network = c.args.instance.now.network in
    let gap = c.args.gap in
    let links = c.in_ok-links.links in (
      c.requires.same,
      c.requires.lower,
      c.requires.many,
      subst (λ o. IsSequence o c.in_ok-sequence.sequence.items) c.order.ensures c.in_ok-sequence.ensures.sequence,
      subst (λ s. AreLinked (seating_of l c.args.children.items network s gap) (length c.args.children.items) links) c.deref-2.ensures.value
          (subst (λ cs. AreLinked (seating_of l cs network c.deref-2.result.now gap) (length cs) links) c.deref.ensures.value (c.in_ok-links.ensures gap)),
      subst (λ s. IsTried (seating_of l c.args.children.items network s gap) c.in_ok-trial.trial) c.deref-4.ensures.value
          (subst (λ cs. IsTried (seating_of l cs network c.deref-4.result.now gap) c.in_ok-trial.trial) c.deref-3.ensures.value c.in_ok-trial.ensures),
    )
