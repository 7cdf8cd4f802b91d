use Rattle.std.proofs.Common.{◌∙◌, ◌<◌, ap, length, sym, arith}
use Rattle.heuristics.specs.Places.{has_given}
use Rattle.heuristics.specs.Rows.{outlook_of}
use Rattle.heuristics.proofs.RowsThere.{as_many, given, given_by_none, may_give_there, not_given}
use Rattle.heuristics.proofs.needs.Needs.is_ungiven_at.Goals as goal

pub returns-then-not-has : goal.returns-then-not-has
returns-then-not-has c = λ n l are together order number.
    let needs = c.args.self.now in
    sym (given_by_none (outlook_of needs) n l c.args.at (sym (together l) ∙ ap (has_given c.args.given.now) (sym number) ∙ sym c.has.ensures ∙ c.if-not-has.true))

pub returns-then-may_give_at : goal.returns-then-may_give_at
returns-then-may_give_at c = λ n l are together order number.
    let needs = c.args.self.now in
    let places = c.args.places.now in
    let at = c.loop-position.position in
    let count = as_many needs places n are in
    let low : at < length places = c.loop-position-test.true in
    let low_too : at < length n.children = omega (arith, count, low) in
    let there = may_give_there needs places n are c.args.order.now c.args.number l c.args.at at order number low in
    sym (given (outlook_of needs) n l c.args.at at low_too (sym there ∙ sym c.may_give_at.ensures ∙ c.if-may_give_at.true))

pub returns : goal.returns
returns c = λ n l are together order number.
    let needs = c.args.self.now in
    let places = c.args.places.now in
    let count = as_many needs places n are in
    let past = c.loop-position-test.false in
    sym (not_given (outlook_of needs) n l c.args.at
    (λ j low.
    (let low_there : j < length places = omega (arith, low, count) in
    sym (may_give_there needs places n are c.args.order.now c.args.number l c.args.at j order number low_there) ∙ c.loop-position.invariant j (omega (arith, low_there, past)))))
