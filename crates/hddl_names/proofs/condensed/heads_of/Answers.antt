use Rattle.std.proofs.Common.{◌∙◌, ℕ, List, sym, subst}
use Rattle.htn_order.specs.Closure.{AreBelow}
use Rattle.hddl_names.specs.Rows.{AreRows}
use Rattle.hddl_names.proofs.Parents.{turned-below}
use Rattle.hddl_names.proofs.condensed.heads_of.Goals as goal

pub rows_of-requires-2 : goal.rows_of-requires-2
rows_of-requires-2 c =
    subst (AreBelow c.args.size) (sym (c.deref.ensures.value ∙ c.in_ok-back.ensures)) (turned-below c.args.size c.args.pairs.now c.requires)

pub returns : goal.returns
returns c =
    c.in_ok-heads.ensures c.args.pairs.now c.in_ok-up.ensures.rows
    (subst (λ (ps : List (ℕ × ℕ)). AreRows ps c.in_ok-down.down) (c.deref.ensures.value ∙ c.in_ok-back.ensures) c.in_ok-down.ensures.rows)
