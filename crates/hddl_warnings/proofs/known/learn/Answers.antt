use Rattle.std.proofs.Common.{sym, subst}
use Rattle.hddl_warnings.specs.Known.{Learns}
use Rattle.hddl_warnings.proofs.Knowing.{learned}
use Rattle.hddl_warnings.proofs.known.learn.Goals as goal

pub returns : goal.returns
returns c = subst (λ es. Learns c.args.known.now es c.args.text.now) (sym c.in_ok-add.ensures.ok) (learned c.args.known.now c.args.text.now 0)
