use Rattle.word_machine.proofs.Counted.{countdown_certified}
use Rattle.word_machine.proofs.certificate.worked_certificate_holds.Goals as goal

pub returns : goal.returns
returns c = countdown_certified
