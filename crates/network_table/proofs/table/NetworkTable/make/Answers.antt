use Rattle.std.proofs.Common.{rules, ◌<◌, length, arith, subst, sym}
use Rattle.network_table.specs.Entries.{IsEntryAt}
use Rattle.network_table.specs.Networks.{children}
use Rattle.network_table.proofs.Drafting.{drafted_is, drafted_within}
use Rattle.network_table.proofs.table.NetworkTable.make.Goals as goal

pub returns-clause-value : goal.returns-clause-value
returns-clause-value c =
    let inside : c.args.draft.job < length c.args.jobs.now = omega (arith, c.if-draft-jobs.false) in
    drafted_is c.args.self.now c.args.jobs.now c.args.draft c.index-jobs-draft.result c.in-Whole.whole c.in-Some.inner.now c.in_ok-next.next inside c.index-jobs-draft.is (sym (subst (IsEntryAt c.args.self.now.networks c.index-jobs-draft.result.network) c.in-Whole.is c.entry.ensures.entry).1)
    c.in-Some.ensures.value c.in_ok-next.ensures

pub returns-clause-within : goal.returns-clause-within
returns-clause-within c =
    let inside : c.args.draft.job < length c.args.jobs.now = omega (arith, c.if-draft-jobs.false) in
    let job = c.index-jobs-draft.result in
    drafted_within c.args.self.now c.args.draft job c.in-Whole.whole c.in-Some.inner.now c.in_ok-next.next c.requires.whole (search rules) (c.in-Some.ensures.within (children c.args.self.now) (search rules))
    (sym (subst (IsEntryAt c.args.self.now.networks c.index-jobs-draft.result.network) c.in-Whole.is c.entry.ensures.entry).1) c.in_ok-next.ensures
