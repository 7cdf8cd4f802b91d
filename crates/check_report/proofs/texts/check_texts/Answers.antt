use Rattle.check_report.specs.Checks.{domain_named, problem_named}
use Rattle.check_report.proofs.Refused.{faulty_is_refused, sound_fit}
use Rattle.check_report.proofs.texts.check_texts.Goals as goal

pub returns-clause-refused : goal.returns-clause-refused
returns-clause-refused c =
    faulty_is_refused (domain_named c.args.domain) (problem_named c.args.problem) c.args.options c.in_ok-checked.checked c.in_ok-checked.ensures

pub returns-clause-fits : goal.returns-clause-fits
returns-clause-fits c = sound_fit (domain_named c.args.domain) (problem_named c.args.problem) c.args.options c.in_ok-checked.checked c.in_ok-checked.ensures
