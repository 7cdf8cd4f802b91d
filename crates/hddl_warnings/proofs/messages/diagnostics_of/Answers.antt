use Rattle.std.specs.Prelude.{option_map}
use Rattle.hddl_warnings.specs.Told.{TellsWarning}
use Rattle.hddl_warnings.specs.Warnings.{in_domain}
use Rattle.hddl_warnings.specs.declared.warning.WarningKind.TheVariants as kind
use Rattle.hddl_warnings.proofs.Zips.{zip_step}
use Rattle.hddl_warnings.proofs.messages.diagnostics_of.Goals as goal

pub loop-warning-preserved : goal.loop-warning-preserved
loop-warning-preserved c =
    let (made, tells, is) = c.in_ok-push_diagnostic.ensures in
    zip_step (TellsWarning c.args.texts.domain.now (option_map (λ p. p.now) c.args.texts.problem)) c.args.warnings.now c.loop-warning.warning-index
    (in_domain kind.OtherDomain 0) c.loop-warning.diagnostics.items c.push_diagnostic.new.diagnostics.items made c.loop-warning-test.true
    c.loop-warning.invariant is tells
