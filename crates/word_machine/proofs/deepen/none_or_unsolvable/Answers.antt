use Rattle.std.proofs.Common.{sym, subst}
use Rattle.word_machine.specs.Answer.{IsEnding, IsOutcome, measure_of}
use Rattle.word_machine.proofs.Answering.{ending_is}
use Rattle.word_machine.proofs.deepen.none_or_unsolvable.Goals as goal

pub returns-clause-ending : goal.returns-clause-ending
returns-clause-ending g c =
    let machine = c.args.machine.now in
    let m = g.M.Machine.words machine in
    let bound = c.args.limits.bounds.nodes in
    subst (IsEnding m bound) (sym c.ending.ensures)
    (ending_is m bound c.args.limits.none_below c.in_ok-outcome.outcome
    (subst (λ measure. IsOutcome m (measure_of m (g.M.Machine.estimate machine) measure) bound c.in_ok-outcome.outcome) c.requires.measure c.in_ok-outcome.ensures.outcome)
    c.requires.before)

pub search-requires-clause-hears : goal.search-requires-clause-hears
search-requires-clause-hears g c = λ _ _.
    g.met.W.Watch.hears c.args.watch.now c.dive.new.watch c.args.limits.none_below c.in_ok-dive.ensures.becomes c.requires.hears

pub returns-clause-becomes : goal.returns-clause-becomes
returns-clause-becomes g c =
    g.met.W.Watch.joins c.args.watch.now c.dive.new.watch c.search.new.watch c.in_ok-dive.ensures.becomes c.in_ok-outcome.ensures.becomes
