use Rattle.std.proofs.Common.{subst}
use Rattle.hddl_meaning.specs.Mentions.{folded}
use Rattle.hddl_warnings.specs.Known.{Learns}
use Rattle.hddl_warnings.specs.Used.{name_text}
use Rattle.hddl_words.specs.declared.term.AtomText.{AtomText}
use Rattle.hddl_warnings.proofs.Knowing.{Knows-next-seen}
use Rattle.hddl_warnings.proofs.known.known_predicates.Goals as goal

pub loop-atom-preserved : goal.loop-atom-preserved
loop-atom-preserved c =
    Knows-next-seen (λ (a : AtomText). name_text a.name) (λ x. x.now) c.args.atoms.now c.loop-atom.atom-index c.atom-item.result c.loop-atom.known
    c.learn_folded.new.known c.loop-atom-test.true c.atom-item.is c.loop-atom.invariant
    (subst (λ t. Learns c.loop-atom.known c.learn_folded.new.known (folded t)) c.text.ensures.value c.in_ok-learn_folded.ensures)
