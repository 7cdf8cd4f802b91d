use Rattle.std.proofs.Common.{◌∙◌, ap, get_or, ℕ, List}
use Rattle.std.proofs.lemmas.List.{get_or-map}
use Rattle.network_table.specs.Numbered.{nothing}
use Rattle.network_table.specs.Networks.{bound_of}
use Rattle.network_table.proofs.Growing.{bound_measured}
use Rattle.network_table.proofs.table.NetworkTable.bound.Goals as goal

pub returns-clause-measured : goal.returns-clause-measured
returns-clause-measured c = λ measure bounds.
    let t = c.args.self.now in
    c.index.ensures ∙ ap (λ (l : List ℕ). get_or l c.args.number c.index.result.now) c.requires.whole.bounds
    ∙ get_or-map (bound_of t.children) t.networks c.args.number nothing c.index.result.now c.requires.known
    ∙ bound_measured measure t c.args.number c.requires.whole c.requires.known bounds
