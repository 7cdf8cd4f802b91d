use Rattle.check_report.proofs.read.domain_of.Goals as goal

pub returns-in_default : goal.returns-in_default
returns-in_default c = record {
  unspelled = c.in-Err.ensures.refused (λ e. c.in_default.not-OutOfMemory e);
  other = λ e. c.in_default.not-OutOfMemory e;
  stands = c.in-Err.ensures.fault;
}
