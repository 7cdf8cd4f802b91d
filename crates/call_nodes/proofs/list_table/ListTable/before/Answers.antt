use Rattle.std.proofs.Common.{◌<◌, ◌∙◌, ◌∷◌, List, [], ap, append-nil, length, subst, sym, ℕ}
use Rattle.call_table.specs.Lists.{Lists, list_at}
use Rattle.call_nodes.proofs.Numbering.{numbered_put, numbered_same, numbered_stays}
use Rattle.call_nodes.proofs.list_table.ListTable.before.Goals as goal

pub returns-in-Some-clause-list : goal.returns-in-Some-clause-list
returns-in-Some-clause-list c =
    let found = c.self.invariant.told (record { first = c.args.first; rest = c.known-rest.result }) c.in-Some.number.now (sym c.in-Some.ensures.value) in
    ap (λ (l : Lists). list_at l c.in-Some.number.now) (sym c.self.view_is) ∙ found.is
    ∙ ap (λ (l : Lists). c.args.first ∷ list_at l c.known-rest.result) c.self.view_is ∙ ap (λ (xs : List ℕ). c.args.first ∷ xs) c.known-rest.ensures.list

pub returns-in-Some-clause-known : goal.returns-in-Some-clause-known
returns-in-Some-clause-known c =
    let found = c.self.invariant.told (record { first = c.args.first; rest = c.known-rest.result }) c.in-Some.number.now (sym c.in-Some.ensures.value) in
    subst (λ (l : Lists). c.in-Some.number.now < length l.lists) c.self.view_is found.known

pub invariant_of-self : goal.invariant_of-self
invariant_of-self c =
    numbered_stays c.self.inside.lists c.add.new.self c.self.inside.numbers ([], c.in_err-number.ensures.err ∙ sym (append-nil c.self.inside.lists.lists)) c.self.invariant

pub invariant_of-self-in_err-insert : goal.invariant_of-self-in_err-insert
invariant_of-self-in_err-insert c =
    numbered_same c.add.new.self c.self.inside.numbers c.insert.new.self c.in_err-insert.ensures.err
    (numbered_stays c.self.inside.lists c.add.new.self c.self.inside.numbers ((c.args.first ∷ list_at c.self.inside.lists c.known-rest.result) ∷ [], c.in_ok-number.ensures.lists) c.self.invariant)

pub invariant_of-self-2 : goal.invariant_of-self-2
invariant_of-self-2 c =
    let low : c.known-rest.result < length c.self.inside.lists.lists = subst (λ (l : Lists). c.known-rest.result < length l.lists) (sym c.self.view_is) c.known-rest.ensures.known in
    numbered_put c.self.inside.lists c.add.new.self c.self.inside.numbers c.insert.new.self c.args.first c.known-rest.result c.in_ok-number.number c.in_ok-number.ensures.lists low
    c.in_ok-number.ensures.number c.self.invariant c.in_ok-insert.ensures.updates.0
