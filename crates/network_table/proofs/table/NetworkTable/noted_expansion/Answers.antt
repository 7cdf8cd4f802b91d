use Rattle.std.proofs.Common.{sym}
use Rattle.std.proofs.lemmas.Option.{MatchOption-at_some}
use Rattle.network_table.proofs.Tables.{more_itself}
use Rattle.network_table.proofs.Expanding.{decomposed_right, performed_right}
use Rattle.network_table.proofs.table.NetworkTable.noted_expansion.Goals as goal

pub returns-in-Some-2 : goal.returns-in-Some-2
returns-in-Some-2 c =
    let t = c.args.self.now in
    λ live given. decomposed_right live t t c.args.job.network c.in-Some.position c.in-Some.ensures.goal.0 c.args.job.instances.now c.in-Some-2.successors.items (more_itself t) c.requires.known (sym c.in-Some.ensures.position)
    c.in-Some.ensures.goal.1 given (MatchOption-at_some _ _ _ c.in-Some-2.is c.in_ok-successors-in-Some.ensures)

pub returns-in-Some-3 : goal.returns-in-Some-3
returns-in-Some-3 c =
    let t = c.args.self.now in
    λ live given. performed_right t t c.args.job.network c.in-Some-3.removals.items (more_itself t) c.requires.known (sym c.in-None.ensures.position)
    (MatchOption-at_some _ _ _ c.in-Some-3.is c.in_ok-removals-in-None.ensures)
