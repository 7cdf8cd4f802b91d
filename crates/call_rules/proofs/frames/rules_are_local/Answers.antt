use Rattle.call_rules.proofs.Rules.{rules_are_local}
use Rattle.call_rules.proofs.frames.rules_are_local.Goals as goal

pub returns : goal.returns
returns c = rules_are_local
