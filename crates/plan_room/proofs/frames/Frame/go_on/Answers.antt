use Rattle.std.proofs.Common.{◌≡◌, ◌+◌, Some, None, slice_get, sym, subst, ap, ◌∙◌, arith}
use Rattle.std.specs.Cow.{cow_slice_items}
use Rattle.plan_room.specs.Placing.{IsFinish, IsFirst}
use Rattle.plan_room.specs.Memo.{IsOpenBelow}
use Rattle.plan_room.specs.Seats.{children_of, LineFits}
use Rattle.plan_room.specs.Frames.{IsFrame, IsWork, NetworkHasRoom, SomeFits, unboxed}
use Rattle.plan_room.specs.Trials.{IsAsked}
use Rattle.plan_room.specs.Windows.{IsLastBetter}
use Rattle.plan_room.proofs.Tried.{kept_so, passed_found, late_none, better_found, better_none, network_at, line_done, line_least, reworked}
use Rattle.plan_room.proofs.Windowed.{asked_best, better_low, first_wider, not_beaten}
use Rattle.plan_room.proofs.frames.Frame.go_on.Goals as goal
use Rattle.plan_room.proofs.frames.Frame.go_on.Goals.{in-Never, in-At}

pub try_network-requires-clause-last : goal.try_network-requires-clause-last
try_network-requires-clause-last g c =
    let l = g.L.PlanLines.lines c.args.lines.now in
    let f = c.loop-self.self in
    let inv = c.loop-self.invariant in
    better_low (SomeFits l (children_of l f.question.line) (cow_slice_items f.networks) f.tried f.question.gap) l.actions f.least c.in-Some.last f.best inv.frame.found
    (subst (λ n. IsLastBetter f.best f.least n (Some c.in-Some.last)) c.actions.ensures c.in-Some.ensures)

pub try_network-requires-clause-square : goal.try_network-requires-clause-square
try_network-requires-clause-square g c =
    let l = g.L.PlanLines.lines c.args.lines.now in
    let f = c.loop-self.self in
    let inv = c.loop-self.invariant in
    let instance = c.network_of-instance.result.now in
    let is : slice_get (cow_slice_items f.networks) f.tried ≡ Some instance = c.network_of-instance.ensures in
    (network_at l c.requires.lines f.question.line f.question.gap inv.frame.line (cow_slice_items f.networks) inv.frame.candidates f.tried instance is).square

pub try_network-requires-clause-work : goal.try_network-requires-clause-work
try_network-requires-clause-work g c =
    let l = g.L.PlanLines.lines c.args.lines.now in
    let f = c.loop-self.self in
    let inv = c.loop-self.invariant in
    let instance = c.network_of-instance.result.now in
    let is : slice_get (cow_slice_items f.networks) f.tried ≡ Some instance = c.network_of-instance.ensures in
    subst (IsWork l c.children_of-children.result.now instance.network f.question.gap) (sym c.kept_work-work.ensures.work)
    (subst (λ cs. IsWork l cs instance.network f.question.gap (unboxed f.work)) (sym inv.children) (inv.frame.work instance is))

pub returns-in_err-finish-clause-frame : goal.returns-in_err-finish-clause-frame
returns-in_err-finish-clause-frame g c =
    let l = g.L.PlanLines.lines c.args.lines.now in
    let f = c.loop-self.self in
    let inv = c.loop-self.invariant in
    let instance = c.network_of-instance.result.now in
    let is : slice_get (cow_slice_items f.networks) f.tried ≡ Some instance = c.network_of-instance.ensures in
    reworked l f inv.frame instance is _
    (subst (λ k. IsWork l (children_of l f.question.line) instance.network f.question.gap (unboxed k)) (sym c.kept_work-work.ensures.none) tt)

pub returns-in_err-self-in-Unknown-clause-frame : goal.returns-in_err-self-in-Unknown-clause-frame
returns-in_err-self-in-Unknown-clause-frame g c =
    let l = g.L.PlanLines.lines c.args.lines.now in
    let f = c.loop-self.self in
    let inv = c.loop-self.invariant in
    let instance = c.network_of-instance.result.now in
    let is : slice_get (cow_slice_items f.networks) f.tried ≡ Some instance = c.network_of-instance.ensures in
    reworked l f inv.frame instance is _
    (subst (λ k. IsWork l (children_of l f.question.line) instance.network f.question.gap (unboxed k)) (sym c.kept_work-work.ensures.none) tt)

pub returns-in-Unknown-clause-frame : goal.returns-in-Unknown-clause-frame
returns-in-Unknown-clause-frame g c =
    let l = g.L.PlanLines.lines c.args.lines.now in
    let f = c.loop-self.self in
    let inv = c.loop-self.invariant in
    let instance = c.network_of-instance.result.now in
    let is : slice_get (cow_slice_items f.networks) f.tried ≡ Some instance = c.network_of-instance.ensures in
    reworked l f inv.frame instance is _
    (kept_so l (children_of l f.question.line) instance.network f.question.gap c.try_network.new.work _ c.in_ok-self-in-Unknown.ensures
    (subst (λ cs. IsWork l cs instance.network f.question.gap c.try_network.new.work) inv.children c.in_ok-finish.ensures.work))

pub loop-self-preserved-after-finish : goal.loop-self-preserved-after-finish
loop-self-preserved-after-finish g c =
    let l = g.L.PlanLines.lines c.args.lines.now in
    let f = c.loop-self.self in
    let inv = c.loop-self.invariant in
    let instance = c.network_of-instance.result.now in
    let last = c.in-Some.last in
    let children = children_of l f.question.line in
    let is : slice_get (cow_slice_items f.networks) f.tried ≡ Some instance = c.network_of-instance.ensures in
    let better : IsLastBetter f.best f.least l.actions (Some last) = subst (λ n. IsLastBetter f.best f.least n (Some last)) c.actions.ensures c.in-Some.ensures in
    let low = better_low (SomeFits l children (cow_slice_items f.networks) f.tried f.question.gap) l.actions f.least last f.best inv.frame.found better in
    let finish : IsFinish (NetworkHasRoom l children instance.network f.question.gap) last c.in_ok-finish.finish =
    subst (λ cs. IsFinish (NetworkHasRoom l cs instance.network f.question.gap) last c.in_ok-finish.finish) inv.children c.in_ok-finish.ensures.finish in
    elim c.match-finish.branch [
      | in-Never w ↦ record {
        frame = subst (λ s. IsFrame l (record { question = s.question; networks = s.networks; tried = s.tried + 1; best = s.best; least = s.least; work = s.work })) (sym w.self-is) (record {
          line = inv.frame.line;
          within = inv.frame.within;
          candidates = inv.frame.candidates;
          low = (let a = c.loop-self-test.true in let b = c.len.ensures in omega arith);
          found = passed_found l children (cow_slice_items f.networks) f.question.gap f.tried f.best inv.frame.found inv.frame.none_better instance is;
          none_better = late_none l children (cow_slice_items f.networks) f.question.gap f.tried f.best inv.frame.found inv.frame.none_better instance is f.least last better
              (subst (IsFinish (NetworkHasRoom l children instance.network f.question.gap) last) w.in-Never.is finish);
          lower = inv.frame.lower;
          work = λ other at. subst (λ k. IsWork l (children_of l f.question.line) other.network f.question.gap (unboxed k)) (sym c.kept_work-work.ensures.none) tt;
        });
        question = ap (λ s. s.question) w.self-is ∙ inv.question;
        children = inv.children ∙ ap (λ s. children_of l s.question.line) (sym w.self-is);
      }
      | in-At w ↦ (let end = w.in-At.end in
          let first : IsFirst (NetworkHasRoom l children instance.network f.question.gap) last end = subst (IsFinish (NetworkHasRoom l children instance.network f.question.gap) last) w.in-At.is finish in
          let wider = first_wider (NetworkHasRoom l children instance.network f.question.gap) l.actions last end low first in
          let fresh = not_beaten l.actions f.least last end f.best better first.within in
          record {
            frame = subst (λ s. IsFrame l (record { question = s.question; networks = s.networks; tried = s.tried + 1; best = s.best; least = s.least; work = s.work })) (sym w.self-is) (record {
              line = inv.frame.line;
              within = inv.frame.within;
              candidates = inv.frame.candidates;
              low = (let a = c.loop-self-test.true in let b = c.len.ensures in omega arith);
              found = better_found l children (cow_slice_items f.networks) f.question.gap f.tried f.best inv.frame.found inv.frame.none_better instance is end wider fresh;
              none_better = better_none l children (cow_slice_items f.networks) f.question.gap f.tried f.best inv.frame.found inv.frame.none_better instance is end wider fresh;
              lower = inv.frame.lower;
              work = λ other at. subst (λ k. IsWork l (children_of l f.question.line) other.network f.question.gap (unboxed k)) (sym c.kept_work-work.ensures.none) tt;
            });
            question = ap (λ s. s.question) w.self-is ∙ inv.question;
            children = inv.children ∙ ap (λ s. children_of l s.question.line) (sym w.self-is);
          })
    ]

pub loop-self-preserved : goal.loop-self-preserved
loop-self-preserved g c =
    let l = g.L.PlanLines.lines c.args.lines.now in
    let f = c.loop-self.self in
    let inv = c.loop-self.invariant in
    let instance = c.network_of-instance.result.now in
    let last = c.in-Some.last in
    let children = children_of l f.question.line in
    let is : slice_get (cow_slice_items f.networks) f.tried ≡ Some instance = c.network_of-instance.ensures in
    let better : IsLastBetter f.best f.least l.actions (Some last) = subst (λ n. IsLastBetter f.best f.least n (Some last)) c.actions.ensures c.in-Some.ensures in
    let low = better_low (SomeFits l children (cow_slice_items f.networks) f.tried f.question.gap) l.actions f.least last f.best inv.frame.found better in
    let finish : IsFinish (NetworkHasRoom l children instance.network f.question.gap) last c.in_ok-finish.finish =
    subst (λ cs. IsFinish (NetworkHasRoom l cs instance.network f.question.gap) last c.in_ok-finish.finish) inv.children c.in_ok-finish.ensures.finish in
    elim c.match-finish.branch [
      | in-Never w ↦ record {
        frame = subst (λ s. IsFrame l (record { question = s.question; networks = s.networks; tried = s.tried + 1; best = s.best; least = s.least; work = s.work })) (sym w.self-is) (record {
          line = inv.frame.line;
          within = inv.frame.within;
          candidates = inv.frame.candidates;
          low = (let a = c.loop-self-test.true in let b = c.len.ensures in omega arith);
          found = passed_found l children (cow_slice_items f.networks) f.question.gap f.tried f.best inv.frame.found inv.frame.none_better instance is;
          none_better = late_none l children (cow_slice_items f.networks) f.question.gap f.tried f.best inv.frame.found inv.frame.none_better instance is f.least last better
              (subst (IsFinish (NetworkHasRoom l children instance.network f.question.gap) last) w.in-Never.is finish);
          lower = inv.frame.lower;
          work = λ other at. subst (λ k. IsWork l (children_of l f.question.line) other.network f.question.gap (unboxed k)) (sym c.kept_work-work.ensures.none) tt;
        });
        question = ap (λ s. s.question) w.self-is ∙ inv.question;
        children = inv.children ∙ ap (λ s. children_of l s.question.line) (sym w.self-is);
      }
      | in-At w ↦ (let end = w.in-At.end in
          let first : IsFirst (NetworkHasRoom l children instance.network f.question.gap) last end = subst (IsFinish (NetworkHasRoom l children instance.network f.question.gap) last) w.in-At.is finish in
          let wider = first_wider (NetworkHasRoom l children instance.network f.question.gap) l.actions last end low first in
          let fresh = not_beaten l.actions f.least last end f.best better first.within in
          record {
            frame = subst (λ s. IsFrame l (record { question = s.question; networks = s.networks; tried = s.tried + 1; best = s.best; least = s.least; work = s.work })) (sym w.self-is) (record {
              line = inv.frame.line;
              within = inv.frame.within;
              candidates = inv.frame.candidates;
              low = (let a = c.loop-self-test.true in let b = c.len.ensures in omega arith);
              found = better_found l children (cow_slice_items f.networks) f.question.gap f.tried f.best inv.frame.found inv.frame.none_better instance is end wider fresh;
              none_better = better_none l children (cow_slice_items f.networks) f.question.gap f.tried f.best inv.frame.found inv.frame.none_better instance is end wider fresh;
              lower = inv.frame.lower;
              work = λ other at. subst (λ k. IsWork l (children_of l f.question.line) other.network f.question.gap (unboxed k)) (sym c.kept_work-work.ensures.none) tt;
            });
            question = ap (λ s. s.question) w.self-is ∙ inv.question;
            children = inv.children ∙ ap (λ s. children_of l s.question.line) (sym w.self-is);
          })
    ]

pub returns-in_default-clause-finish : goal.returns-in_default-clause-finish
returns-in_default-clause-finish g c =
    let l = g.L.PlanLines.lines c.args.lines.now in
    let f = c.loop-self.self in
    let inv = c.loop-self.invariant in
    subst (λ q. IsFinish (LineFits l q.line q.gap) l.actions c.finish_of.result) inv.question
    (subst (IsFinish (LineFits l f.question.line f.question.gap) l.actions) (sym c.finish_of.ensures)
    (line_least l c.requires.lines f.question.line f.question.gap inv.frame.line (cow_slice_items f.networks) inv.frame.candidates f.tried f.least f.best inv.frame.found inv.frame.lower
    (subst (λ n. IsLastBetter f.best f.least n None) c.actions.ensures c.in_default.ensures)))

pub returns-in_default-clause-asked : goal.returns-in_default-clause-asked
returns-in_default-clause-asked g c =
    let l = g.L.PlanLines.lines c.args.lines.now in
    let asks = IsOpenBelow l c.args.memo.now (children_of l c.args.self.now.question.line) in
    subst (IsAsked asks) (sym c.finish_of.ensures) (asked_best asks c.loop-self.self.best)

pub returns-clause-finish : goal.returns-clause-finish
returns-clause-finish g c =
    let l = g.L.PlanLines.lines c.args.lines.now in
    let f = c.loop-self.self in
    let inv = c.loop-self.invariant in
    subst (λ q. IsFinish (LineFits l q.line q.gap) l.actions c.finish_of-2.result) inv.question
    (subst (IsFinish (LineFits l f.question.line f.question.gap) l.actions) (sym c.finish_of-2.ensures)
    (line_done l c.requires.lines f.question.line f.question.gap inv.frame.line (cow_slice_items f.networks) inv.frame.candidates f.tried f.best
    (let a = c.loop-self-test.false in let b = c.len.ensures in omega arith) inv.frame.low inv.frame.found inv.frame.none_better))

pub returns-clause-asked : goal.returns-clause-asked
returns-clause-asked g c =
    let l = g.L.PlanLines.lines c.args.lines.now in
    let asks = IsOpenBelow l c.args.memo.now (children_of l c.args.self.now.question.line) in
    subst (IsAsked asks) (sym c.finish_of-2.ensures) (asked_best asks c.loop-self.self.best)
