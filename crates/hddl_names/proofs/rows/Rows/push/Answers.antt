use Rattle.std.proofs.Common.{◌≡◌, ◌<◌, ap, ◌∙◌, ◌++◌, ◌∷◌, [], length, arith, get_or}
use Rattle.std.proofs.lemmas.List.Elements.{All-same}
use Rattle.hddl_names.specs.Rows.{lists_of}
use Rattle.hddl_names.proofs.RowLists.{set_within, row_within, push_within, pushed}
use Rattle.hddl_names.proofs.rows.Rows.push.Goals as goal

pub invariant_of-self : goal.invariant_of-self
invariant_of-self c =
    let rows = c.self.inside.rows.items in
    let long : length (lists_of rows) ≡ length c.args.self.now = ap length c.self.view_is in
    let small = c.requires.number in
    let lt : c.args.number < length (lists_of rows) = omega (arith, long, small) in
    set_within rows c.args.number c.push.new.self c.self.invariant
    (All-same (λ x. x < length (lists_of rows)) c.push.new.self.items (get_or rows c.args.number c.index_mut.result.now).items
    (c.in_err-push.ensures.items ∙ ap (λ v. v.items) c.index_mut.ensures.value) (row_within rows c.args.number c.index_mut.result.now lt c.self.invariant))

pub invariant_of-self-2 : goal.invariant_of-self-2
invariant_of-self-2 c =
    let rows = c.self.inside.rows.items in
    let row = c.index_mut.result.now in
    set_within rows c.args.number c.push.new.self c.self.invariant
    (All-same (λ x. x < length (lists_of rows)) c.push.new.self.items (row.items ++ c.args.item ∷ []) c.in_ok-push.ensures.items
    (push_within rows c.args.self.now c.args.number c.args.item row c.self.view_is c.requires.number c.requires.item c.self.invariant c.index_mut.ensures.value))

pub returns : goal.returns
returns c =
    pushed c.self.inside.rows.items c.args.self.now c.args.number c.args.item c.index_mut.result.now c.push.new.self c.self.view_is c.requires.number c.index_mut.ensures.value
    c.in_ok-push.ensures.items
