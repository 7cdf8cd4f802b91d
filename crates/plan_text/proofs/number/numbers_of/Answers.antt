use Rattle.std.proofs.lemmas.Result.{err_from_is_err_and}
use Rattle.plan_text.proofs.Elements.{holds_at, first_large}
use Rattle.plan_text.specs.Line.{is_number}
use Rattle.plan_text.proofs.number.numbers_of.Goals as goal

pub number_of-requires : goal.number_of-requires
number_of-requires c = holds_at is_number c.args.words.now c.loop-word.word-index c.word-item.result c.loop-word-test.true c.word-item.is c.requires

pub returns-in_err-number_of-clause-fault : goal.returns-in_err-number_of-clause-fault
returns-in_err-number_of-clause-fault c =
    let p = err_from_is_err_and c.from_residual-in_err-number_of.result c.from_residual-in_err-number_of.ensures.1 in
    let large = c.in_err-number_of.ensures.large in
    rw (p.1, p.2) (first_large c.args.words.now c.loop-word.word-index c.word-item.result _ c.loop-word-test.true c.word-item.is c.loop-word.invariant.small large.0 large.1)
