use Rattle.std.proofs.Common.{◌∙◌, ◌∷◌, List, ap, sym, ℕ}
use Rattle.call_table.specs.Lists.{Lists, list_at}
use Rattle.call_nodes.proofs.list_table.ListTable.number_before.Goals as goal

pub returns : goal.returns
returns c =
    let is = c.self.invariant.told (record { first = c.args.first; rest = c.known-rest.result }) c.in_ok-number.number.now (sym c.in_ok-number.ensures.value) in
    ap (λ (l : Lists). list_at l c.in_ok-number.number.now) (sym c.self.view_is) ∙ is.is
    ∙ ap (λ (l : Lists). c.args.first ∷ list_at l c.known-rest.result) c.self.view_is ∙ ap (λ (xs : List ℕ). c.args.first ∷ xs) c.known-rest.ensures.list
