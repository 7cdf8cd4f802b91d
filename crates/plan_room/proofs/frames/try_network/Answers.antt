use Rattle.std.proofs.Common.{Some, false, refl, sym, subst, ◌∙◌, arith}
use Rattle.std.proofs.lemmas.Bool.{both_ways}
use Rattle.plan_room.specs.Frames.{IsWork, NetworkHasRoom}
use Rattle.plan_room.specs.Memo.{IsOpenBelow}
use Rattle.plan_room.specs.Placing.{IsFinish}
use Rattle.plan_room.specs.Trials.{IsAsked}
use Rattle.plan_room.proofs.Joined.{as_many_fit}
use Rattle.plan_room.proofs.Reordered.{all_end}
use Rattle.plan_room.proofs.Windowed.{asked_up_to, finish_up_to, room_holds}
use Rattle.plan_room.proofs.frames.try_network.Goals as goal
use Rattle.plan_room.proofs.frames.try_network.Goals.{in-Some-take, in-None+else-not-may_fit+in_ok-list-in-None+in_ok-current-in-None, then-not-current+in-At+in_ok-current, else-not-current}

pub returns-then-not-may_fit-clause-finish : goal.returns-then-not-may_fit-clause-finish
returns-then-not-may_fit-clause-finish g c k low room =
    let l = g.L.PlanLines.lines c.args.lines.now in
    let children = c.args.children.now in
    let network = c.args.instance.now.network in
    let gap = c.args.window.first in
    both_ways false refl
    (c.if-not-may_fit.ensures.1 (as_many_fit l children network gap k room, room_holds l children network gap k c.args.window.last room low))

pub raise_bound-requires-clause-lower : goal.raise_bound-requires-clause-lower
raise_bound-requires-clause-lower g c =
    let l = g.L.PlanLines.lines c.args.lines.now in
    let children = c.args.children.now in
    let network = c.args.instance.now.network in
    let gap = c.args.window.first in
    let worked : IsWork l children network gap (Some c.match-take.current) = elim c.match-take.branch [
      | in-Some-take w ↦ subst (λ x. IsWork l children network gap (Some x)) (sym w.current-is)
          (subst (IsWork l children network gap) (sym c.take.ensures.value ∙ w.in-Some-take.is) c.requires.work)
      | in-None+else-not-may_fit+in_ok-list-in-None+in_ok-current-in-None w ↦ subst (λ x. IsWork l children network gap (Some x)) (sym w.current-is) w.in_ok-current-in-None.ensures
    ] in
    worked.1

pub returns-in-Unknown-clause-work : goal.returns-in-Unknown-clause-work
returns-in-Unknown-clause-work g c =
    let l = g.L.PlanLines.lines c.args.lines.now in
    let children = c.args.children.now in
    let network = c.args.instance.now.network in
    let gap = c.args.window.first in
    let worked : IsWork l children network gap (Some c.match-take.current) = elim c.match-take.branch [
      | in-Some-take w ↦ subst (λ x. IsWork l children network gap (Some x)) (sym w.current-is)
          (subst (IsWork l children network gap) (sym c.take.ensures.value ∙ w.in-Some-take.is) c.requires.work)
      | in-None+else-not-may_fit+in_ok-list-in-None+in_ok-current-in-None w ↦ subst (λ x. IsWork l children network gap (Some x)) (sym w.current-is) w.in_ok-current-in-None.ensures
    ] in
    (worked.0, c.in-Unknown.ensures.lower, worked.2, worked.3, worked.4, worked.5)

pub returns-in-Never-clause-finish : goal.returns-in-Never-clause-finish
returns-in-Never-clause-finish g c k low room =
    c.in-Never.ensures.never k (omega arith) (all_end (g.L.PlanLines.lines c.args.lines.now) c.args.children.now c.args.instance.now.network c.args.window.first k room)

pub guessed_work-requires-clause-work : goal.guessed_work-requires-clause-work
guessed_work-requires-clause-work g c =
    let l = g.L.PlanLines.lines c.args.lines.now in
    let children = c.args.children.now in
    let network = c.args.instance.now.network in
    let gap = c.args.window.first in
    let worked : IsWork l children network gap (Some c.match-take.current) = elim c.match-take.branch [
      | in-Some-take w ↦ subst (λ x. IsWork l children network gap (Some x)) (sym w.current-is)
          (subst (IsWork l children network gap) (sym c.take.ensures.value ∙ w.in-Some-take.is) c.requires.work)
      | in-None+else-not-may_fit+in_ok-list-in-None+in_ok-current-in-None w ↦ subst (λ x. IsWork l children network gap (Some x)) (sym w.current-is) w.in_ok-current-in-None.ensures
    ] in
    (worked.0, c.in-At.ensures.lower, worked.2, worked.3, worked.4, worked.5)

pub try_matchings-finish-requires-clause-work : goal.try_matchings-finish-requires-clause-work
try_matchings-finish-requires-clause-work g c =
    let l = g.L.PlanLines.lines c.args.lines.now in
    let children = c.args.children.now in
    let network = c.args.instance.now.network in
    let gap = c.args.window.first in
    let worked : IsWork l children network gap (Some c.match-take.current) = elim c.match-take.branch [
      | in-Some-take w ↦ subst (λ x. IsWork l children network gap (Some x)) (sym w.current-is)
          (subst (IsWork l children network gap) (sym c.take.ensures.value ∙ w.in-Some-take.is) c.requires.work)
      | in-None+else-not-may_fit+in_ok-list-in-None+in_ok-current-in-None w ↦ subst (λ x. IsWork l children network gap (Some x)) (sym w.current-is) w.in_ok-current-in-None.ensures
    ] in
    elim c.if-not-current.branch [
      | then-not-current+in-At+in_ok-current w ↦ subst (λ x. IsWork l children network gap (Some x)) (sym w.current-is) w.in_ok-current.ensures
      | else-not-current w ↦ subst (λ x. IsWork l children network gap (Some x)) (sym w.current-is) worked
    ]

pub returns-clause-finish : goal.returns-clause-finish
returns-clause-finish g c =
    let l = g.L.PlanLines.lines c.args.lines.now in
    let room = NetworkHasRoom l c.args.children.now c.args.instance.now.network c.args.window.first in
    subst (IsFinish room c.args.window.last) (sym c.up_to.ensures)
    (finish_up_to room l.actions c.args.window.last c.try_matchings-finish.result.0 c.requires.last c.try_matchings-finish.ensures.finish)

pub returns-clause-asked : goal.returns-clause-asked
returns-clause-asked g c =
    let l = g.L.PlanLines.lines c.args.lines.now in
    let asks = IsOpenBelow l c.args.memo.now c.args.children.now in
    subst (IsAsked asks) (sym c.up_to.ensures) (asked_up_to asks c.try_matchings-finish.result.0 c.args.window.last c.try_matchings-finish.ensures.asked)
