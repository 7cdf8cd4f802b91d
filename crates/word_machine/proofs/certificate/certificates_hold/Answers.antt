use Rattle.word_machine.proofs.Certified.{certified}
use Rattle.word_machine.proofs.certificate.certificates_hold.Goals as goal

pub returns : goal.returns
returns g c = λ m low bound word below within certificate. certified m low below bound word within certificate
