use Rattle.std.proofs.Common.{◌≡◌, ◌∙◌, arith}
use Rattle.heuristics.proofs.FoundNeeds.{followed_next}
use Rattle.heuristics.proofs.needs_table.NeedsTable.keep_number.Goals as goal

pub returns-clause-followed : goal.returns-clause-followed
returns-clause-followed c =
    let did = c.in_ok-found.ensures in
    let then = c.in_ok-keep_next.ensures in
    let same : c.in-Ok.id ≡ c.args.number = c.in-Ok.ensures.1 in
    followed_next c.args.prospects.now c.args.networks.now c.args.self.now c.needed_of.new.self c.keep_next.new.self c.in-Ok.id c.in_ok-found.found.needed c.in_ok-found.found.ids.items
    (same ∙ c.requires.next) (omega (arith, same, c.requires.known)) did.more did.rest then.needs then.chains then.rest did.kept did.listed
