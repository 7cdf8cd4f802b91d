use Rattle.hddl_warnings.specs.Used.{term_text}
use Rattle.hddl_warnings.proofs.Knowing.{Knows-next-seen}
use Rattle.hddl_warnings.proofs.known.known_terms.Goals as goal

pub loop-term-preserved : goal.loop-term-preserved
loop-term-preserved c =
    Knows-next-seen term_text (λ x. x.now) c.args.terms.now c.loop-term.term-index c.term-item.result c.loop-term.known c.learn_term.new.known
    c.loop-term-test.true c.term-item.is c.loop-term.invariant c.in_ok-learn_term.ensures
