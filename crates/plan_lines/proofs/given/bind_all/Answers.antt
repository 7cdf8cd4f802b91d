use Rattle.std.proofs.Common.{◌∙◌, ◌<◌, arith, length}
use Rattle.htn_task.specs.declared.term.Term.TheVariants.{Parameter}
use Rattle.plan_lines.proofs.Narrowed.{bound_all, bound_more, bound_none}
use Rattle.plan_lines.proofs.given.bind_all.Goals as goal

pub returns-then-not-bind-clause-narrows : goal.returns-then-not-bind-clause-narrows
returns-then-not-bind-clause-narrows c =
    let terms = c.args.terms.now in
    let objects = c.args.objects.now in
    let i = c.loop-place.place in
    let below : i < length terms = c.loop-place-test.true in
    let within : i < length objects = omega (arith, below, c.if-terms-objects.false) in
    bound_none terms objects c.args.given.now.items c.loop-place.given.items i c.bind.new.given.items (Parameter 0) below within c.loop-place.invariant.narrows c.if-not-bind.ensures.narrows

pub returns-then-not-bind-clause-long : goal.returns-then-not-bind-clause-long
returns-then-not-bind-clause-long c = c.if-not-bind.ensures.long ∙ c.loop-place.invariant.long

pub loop-place-preserved : goal.loop-place-preserved
loop-place-preserved c =
    let terms = c.args.terms.now in
    let objects = c.args.objects.now in
    let i = c.loop-place.place in
    let below : i < length terms = c.loop-place-test.true in
    let within : i < length objects = omega (arith, below, c.if-terms-objects.false) in
    record {
      narrows =
          bound_more terms objects c.args.given.now.items c.loop-place.given.items i c.bind.new.given.items (Parameter 0) below within c.loop-place.invariant.narrows c.if-not-bind.ensures.narrows;
      long = c.if-not-bind.ensures.long ∙ c.loop-place.invariant.long;
    }

pub returns-clause-narrows : goal.returns-clause-narrows
returns-clause-narrows c =
    bound_all c.args.terms.now c.args.objects.now c.args.given.now.items c.loop-place.given.items c.loop-place.place (omega (arith, c.loop-place-test.false)) (omega (arith, c.if-terms-objects.false))
    c.loop-place.invariant.narrows

pub returns-clause-long : goal.returns-clause-long
returns-clause-long c = c.loop-place.invariant.long
