use Rattle.hddl_meaning.specs.declared.fault.CheckFault.{CheckFault}
use Rattle.hddl_meaning.specs.declared.fault.CheckFault.TheVariants as fault
use Rattle.hddl_meaning.specs.declared.fault.Source.TheVariants as source
use Rattle.hddl_warnings.proofs.Zips.{zip_step}
use Rattle.check_report.specs.Saying.{TellsPair}
use Rattle.check_report.proofs.tell.pair_errors.Goals as goal

-- some fault
abbrev any_fault : CheckFault
any_fault = fault.Duplicate (record { source = source.Domain; place = 0 })

pub loop-fault-preserved : goal.loop-fault-preserved
loop-fault-preserved c =
    zip_step (TellsPair c.args.index.now.texts.now) c.args.faults.now c.loop-fault.fault-index any_fault c.loop-fault.errors.items c.push.new.self.items
    c.in_ok-pair_error.field-0 c.loop-fault-test.true c.loop-fault.invariant c.in_ok-push.ensures.items c.in_ok-pair_error.ensures
