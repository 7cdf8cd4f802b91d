use Rattle.std.proofs.Common.{arith}
use Rattle.std.proofs.lemmas.List.{take_all}
use Rattle.network_table.proofs.Remembering.{first_all, first_next, first_none}
use Rattle.network_table.proofs.table.NetworkTable.expand_each.Goals as goal

pub loop-job-init : goal.loop-job-init
loop-job-init c = first_none c.args.self.now c.args.jobs.now c.requires.whole

pub loop-job-preserved : goal.loop-job-preserved
loop-job-preserved c =
    let done = c.in_ok-expand_job.ensures in
    first_next c.args.self.now c.loop-job.self c.expand_job.new.self c.args.jobs.now c.loop-job.job-index c.job-item.result c.requires.whole c.requires.known c.loop-job.invariant
    c.loop-job-test.true c.job-item.is done.whole done.grown done.ready done.sound done.others done.children

pub returns : goal.returns
returns c =
    let jobs = c.args.jobs.now in
    let number = c.loop-job.job-index in
    first_all c.args.self.now c.loop-job.self jobs number c.loop-job.invariant (take_all number jobs (omega (arith, c.loop-job-test.false)))
