use Rattle.plan_text.specs.Seen.{seen}
use Rattle.plan_text.proofs.LineLaws.{illegal_here, legal_line}
use Rattle.plan_text.proofs.reader.check_bytes.Goals as goal

pub returns-in-Some-clause-fault : goal.returns-in-Some-clause-fault
returns-in-Some-clause-fault c = illegal_here (seen c.args.line.now) c.in-Some.index c.in-Some.ensures

pub returns-in-None-clause-legal : goal.returns-in-None-clause-legal
returns-in-None-clause-legal c = legal_line (seen c.args.line.now) c.in-None.ensures
