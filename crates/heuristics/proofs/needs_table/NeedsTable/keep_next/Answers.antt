use Rattle.std.proofs.Common.{◌∙◌, Global, List, Vec, ℕ, ap, map, refl}
use Rattle.std.proofs.lemmas.List.{map_push}
use Rattle.heuristics.specs.declared.needs_table.NeedsTable.{NeedsTable}
use Rattle.heuristics.proofs.ListedNeeds.{chains_push, more_itself}
use Rattle.heuristics.proofs.needs_table.NeedsTable.keep_next.Goals as goal

pub returns-clause-chains : goal.returns-clause-chains
returns-clause-chains c = λ known atoms is_chain network table here are.
    let old = c.args.self.now in
    let new : NeedsTable = record old { needs = c.push.new.self; lists = c.push-2.new.self } in
    let items : Vec ℕ Global → List ℕ = λ ids. ids.items in
    chains_push known atoms is_chain network old new c.args.found.needed c.args.found.ids.items table refl (more_itself old.wanted.wants.items) c.in_ok-push.ensures.items
    (ap (map items) c.in_ok-push-2.ensures.items ∙ map_push items old.lists.items c.args.found.ids) here are
