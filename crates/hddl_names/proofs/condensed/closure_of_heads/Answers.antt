use Rattle.std.proofs.Common.{◌∙◌, ℕ, List, sym, ap, subst}
use Rattle.htn_order.specs.Closure.{AreBelow}
use Rattle.hddl_names.specs.Heads.{head_pairs}
use Rattle.hddl_names.specs.Rows.{AreRows, turned}
use Rattle.hddl_names.proofs.Heads.{heads_below}
use Rattle.hddl_names.proofs.Parents.{turned-below}
use Rattle.hddl_names.proofs.condensed.closure_of_heads.Goals as goal

pub rows_of-requires : goal.rows_of-requires
rows_of-requires c =
    subst (AreBelow c.args.size) (sym (c.deref-2.ensures.value ∙ c.in_ok-between.ensures)) (heads_below c.args.size c.args.heads.now c.args.pairs.now c.requires.small c.requires.below)

pub rows_of-requires-2 : goal.rows_of-requires-2
rows_of-requires-2 c =
    subst (AreBelow c.args.size) (sym (c.deref-3.ensures.value ∙ c.in_ok-back.ensures ∙ ap turned (c.deref.ensures.value ∙ c.in_ok-between.ensures)))
    (turned-below c.args.size (head_pairs c.args.heads.now c.args.pairs.now) (heads_below c.args.size c.args.heads.now c.args.pairs.now c.requires.small c.requires.below))

pub of-requires-clause-below : goal.of-requires-clause-below
of-requires-clause-below c =
    subst (λ n. AreBelow n c.deref-4.result.now) (sym c.in_ok-parents.ensures.len)
    (subst (AreBelow c.args.size) (sym (c.deref-4.ensures.value ∙ c.in_ok-between.ensures)) (heads_below c.args.size c.args.heads.now c.args.pairs.now c.requires.small c.requires.below))

pub of-requires-clause-parents : goal.of-requires-clause-parents
of-requires-clause-parents c =
    subst (λ (ps : List (ℕ × ℕ)). AreRows ps c.in_ok-parents.parents) (c.deref-2.ensures.value ∙ sym c.deref-4.ensures.value) c.in_ok-parents.ensures.rows

pub of-requires-clause-children : goal.of-requires-clause-children
of-requires-clause-children c =
    subst (λ (ps : List (ℕ × ℕ)). AreRows ps c.in_ok-children.children) (c.deref-3.ensures.value ∙ c.in_ok-back.ensures ∙ ap turned (c.deref.ensures.value ∙ sym c.deref-4.ensures.value))
    c.in_ok-children.ensures.rows
