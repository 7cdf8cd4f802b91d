use Rattle.std.proofs.Common.{refl}
use Rattle.hddl_meaning.specs.Items.{variable_mentions}
use Rattle.hddl_meaning.specs.declared.fault.CheckFault.TheVariants.{TooMany}
use Rattle.hddl_scope.proofs.Adding.{found_none, found_once}
use Rattle.hddl_scope.proofs.Cuts.{past_once}
use Rattle.hddl_uses.proofs.quantifiers.check_count.Goals as goal

pub returns-in_ok-push : goal.returns-in_ok-push
returns-in_ok-push c =
    found_once TooMany c.args.context.now.source c.in-Some.place c.at.result c.first_past.ensures c.in-Some.is (past_once c.args.limit (variable_mentions c.args.scope.now)) c.at.ensures
    c.in_ok-push.ensures

pub returns-in_default : goal.returns-in_default
returns-in_default c = found_none TooMany c.args.context.now.source c.first_past.ensures c.in_default.is refl
