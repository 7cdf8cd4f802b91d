use Rattle.std.proofs.Common.{ap, ◌∙◌, sym, subst, Contains}
use Rattle.word_machine.specs.Desk.{PassState}
use Rattle.word_machine.proofs.Pieces.{stands_last}
use Rattle.word_machine.proofs.worker.take_piece.Goals as goal

pub returns-then-seen-first-clause-outcome : goal.returns-then-seen-first-clause-outcome
returns-then-seen-first-clause-outcome g c =
    let seen = c.least.new.pass.seen in
    let is = c.skip.ensures in (
      subst (Contains seen) (sym is.0) (stands_last c.args.pass.now.seen seen c.in-Some.seen (ap (λ (p : PassState). p.seen) c.in-Some.ensures.some)),
      is.1 ∙ c.bounds_of-first.ensures.first,
    )
