use Rattle.std.proofs.Common.{subst}
use Rattle.hddl_meaning.specs.Mentions.{folded}
use Rattle.hddl_warnings.specs.Known.{Learns}
use Rattle.hddl_warnings.specs.Used.{name_text}
use Rattle.hddl_warnings.proofs.Knowing.{Knows-next-seen}
use Rattle.hddl_warnings.proofs.known.known_names.Goals as goal

pub loop-name-preserved : goal.loop-name-preserved
loop-name-preserved c =
    Knows-next-seen name_text (λ x. x.now) c.args.names.now c.loop-name.name-index c.name-item.result c.loop-name.known c.learn_folded.new.known
    c.loop-name-test.true c.name-item.is c.loop-name.invariant
    (subst (λ t. Learns c.loop-name.known c.learn_folded.new.known (folded t)) c.text.ensures.value c.in_ok-learn_folded.ensures)
