use Rattle.hddl_scope.proofs.Least.{neither_before}
use Rattle.hddl_check.proofs.pair.named_faults_are_unique.Goals as goal

pub returns : goal.returns
returns c = record { unique = λ d p f g one other. neither_before f g (other.1 f one.0) (one.1 g other.0) }
