use Rattle.std.proofs.Common.{◌≡◌, ◌∙◌, ap, get_or, sym, None}
use Rattle.network_table.specs.Networks.{expansion_at}
use Rattle.network_table.proofs.Expanding.{none_of}
use Rattle.network_table.proofs.Remembering.{put_down, remembered_none, whole_after}
use Rattle.network_table.proofs.table.NetworkTable.remember_one.Goals as goal

pub returns-then-is_some : goal.returns-then-is_some
returns-then-is_some c = remembered_none c.args.self.now c.args.jobs.now c.requires.whole

pub returns : goal.returns
returns c =
    let s = c.args.self.now in
    let jobs = c.args.jobs.now in
    let k = c.args.found.job in
    let job = get_or jobs k c.index-jobs-job.result in
    let none : expansion_at s job.network ≡ None = none_of _ c.expansion.result (expansion_at s job.network) c.expansion.ensures (sym c.is_some.ensures ∙ c.if-is_some.false) in
    let done = c.remember.ensures in
    let whole =
    whole_after s c.remember.new.self job.network _ c.requires.whole done.children done.networks (ap (λ v. v.items) done.open_lens) (ap (λ v. v.items) done.bounds) done.expansions in
    put_down s c.remember.new.self jobs c.args.found job c.requires.whole whole c.requires.known c.requires.found (ap (λ j. get_or jobs k j) c.index-jobs-job.is) none done.children done.networks done.expansions
