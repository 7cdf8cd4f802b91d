use Rattle.htn_run.proofs.Quiet.{quiet}
use Rattle.htn_run.proofs.laws.quiet_requests_show_nothing.Goals as goal

pub returns : goal.returns
returns g c = quiet g.E.Out.contents g.E.Out.has_failed
