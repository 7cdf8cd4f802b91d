use Rattle.std.proofs.Common.{◌∙◌, ap, sym}
use Rattle.std.specs.List.{list_all}
use Rattle.std.proofs.lemmas.Bool.{and_from, both_ways}
use Rattle.never_applied.specs.Fine.{is_fine}
use Rattle.never_applied.specs.Used.{has_method, has_node}
use Rattle.never_applied.proofs.Growing.{method_more, more_itself, more_then}
use Rattle.never_applied.proofs.usable.Usable.add_instance.Goals as goal

pub returns-then-not-is_used-clause-more : goal.returns-then-not-is_used-clause-more
returns-then-not-is_used-clause-more c = more_itself c.args.self.now

pub returns-then-not-is_used-clause-there : goal.returns-then-not-is_used-clause-there
returns-then-not-is_used-clause-there c = λ fine.
    absurd (both_ways _ c.if-not-is_used.true (c.are_fine-is_used.ensures ∙ ap (list_all (is_fine c.args.fine.now)) (c.as_slice-nodes.ensures ∙ c.children.ensures) ∙ fine))

pub returns-clause-more : goal.returns-clause-more
returns-clause-more c =
    let m = more_then _ _ _ c.in_ok-add_method.ensures.more c.in_ok-add_nodes.ensures.more in
    record { tasks = m.tasks; actions = m.actions; names = m.names; methods = m.methods }

pub returns-clause-there : goal.returns-clause-there
returns-clause-there c = λ fine.
    let old = c.add_method.new.self in
    let new = c.add_nodes.new.self in
    and_from _ _
    (method_more old new c.in_ok-add_nodes.ensures.more c.args.instance.now.method (ap (has_method old) (sym c.method.ensures) ∙ c.in_ok-add_method.ensures.there))
    (ap (list_all (has_node new)) (sym (c.as_slice-nodes.ensures ∙ c.children.ensures)) ∙ c.in_ok-add_nodes.ensures.there)
