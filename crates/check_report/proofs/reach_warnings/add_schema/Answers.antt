use Rattle.std.proofs.Common.{◌++◌, subst, sym}
use Rattle.std.specs.Prelude.{option_map}
use Rattle.std.specs.List.{AllZip}
use Rattle.indexmap.proofs.SetLemmas.{AllZip-push}
use Rattle.check_report.specs.ReachWarnings.{IsNeverAppliedWarning, listed}
use Rattle.check_report.specs.declared.causes.Schema.{Schema}
use Rattle.check_report.proofs.reach_warnings.add_schema.Goals as goal

pub returns-in_ok-push-in-Some : goal.returns-in_ok-push-in-Some
returns-in_ok-push-in-Some c before all =
    let tells = IsNeverAppliedWarning c.args.texts.now in
    subst (λ o. AllZip tells (before ++ listed (option_map (λ (s : Schema). s.name.now.place) o)) c.push.new.self.items) (sym c.in-Some.is)
    (subst (AllZip tells _) (sym c.in_ok-push-in-Some.ensures.items)
    (AllZip-push tells before c.args.warnings.now.items c.in-Some.schema.name.now.place c.in_ok-warning-in-Some.warning all c.in_ok-warning-in-Some.ensures))
