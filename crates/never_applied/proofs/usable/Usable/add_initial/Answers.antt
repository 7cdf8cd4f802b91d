use Rattle.std.proofs.Common.{◌∙◌, ap, sym}
use Rattle.std.specs.List.{list_all}
use Rattle.std.proofs.lemmas.Bool.{both_ways}
use Rattle.never_applied.specs.Fine.{is_fine}
use Rattle.never_applied.specs.Used.{has_node}
use Rattle.never_applied.proofs.Growing.{more_itself}
use Rattle.never_applied.proofs.usable.Usable.add_initial.Goals as goal

pub returns-then-not-is_used-clause-more : goal.returns-then-not-is_used-clause-more
returns-then-not-is_used-clause-more c = more_itself c.args.self.now

pub returns-then-not-is_used-clause-there : goal.returns-then-not-is_used-clause-there
returns-then-not-is_used-clause-there c = λ fine.
    absurd (both_ways _ c.if-not-is_used.true (c.are_fine-is_used.ensures ∙ ap (list_all (is_fine c.args.fine.now)) (c.as_slice-nodes.ensures ∙ c.children.ensures) ∙ fine))

pub returns-clause-there : goal.returns-clause-there
returns-clause-there c = λ fine. ap (list_all (has_node c.add_nodes.new.self)) (sym (c.as_slice-nodes.ensures ∙ c.children.ensures)) ∙ c.in_ok-add_nodes.ensures.there
