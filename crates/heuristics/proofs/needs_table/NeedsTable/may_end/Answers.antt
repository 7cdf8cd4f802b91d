use Rattle.std.proofs.Common.{◌∙◌, Some, None, ap}
use Rattle.htn_model.specs.Literal.{holds}
use Rattle.heuristics.specs.Places.{all_needed}
use Rattle.network_table.specs.Networks.{network_at}
use Rattle.state_table.specs.Table.{state_of}
use Rattle.heuristics.proofs.StoredNeeds.{blocked_ends, kept_at, needed_ends}
use Rattle.heuristics.proofs.needs_table.NeedsTable.may_end.Goals as goal

pub returns-in-Some : goal.returns-in-Some
returns-in-Some c = λ problem o atoms networks table kept goals.
    let t = c.args.self.now in
    let n = c.args.number in
    let network = network_at networks n in
    let state = state_of atoms c.args.state.now in
    let right = kept_at o t.goal atoms networks t.needs.items n c.index.result.now (Some c.in-Some.needed) c.requires c.index.ensures c.in-Some.is kept in
    needed_ends problem o state network c.hold.result right.0
    (c.hold.ensures atoms (all_needed o t.goal network) table right.1 ∙ ap (λ g. holds state (all_needed o g network)) goals)

pub returns-in-None : goal.returns-in-None
returns-in-None c = λ problem o atoms networks table kept goals.
    let t = c.args.self.now in
    let n = c.args.number in
    blocked_ends problem o (state_of atoms c.args.state.now) (network_at networks n)
    (kept_at o t.goal atoms networks t.needs.items n c.index.result.now None c.requires c.index.ensures c.in-None.is kept)
