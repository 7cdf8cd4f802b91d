use Rattle.std.proofs.Common.{◌∙◌, ℕ, List, sym, ap, subst}
use Rattle.htn_order.specs.Closure.{AreBelow}
use Rattle.hddl_names.specs.Closures.{along_lines}
use Rattle.hddl_names.specs.Intervals.{AreTops}
use Rattle.hddl_names.specs.Rows.{AreRows, turned}
use Rattle.hddl_names.proofs.Junctions.{along_below, some_more}
use Rattle.hddl_names.proofs.Parents.{turned-below}
use Rattle.hddl_names.proofs.closure.lines_between.Goals as goal

pub rows_of-requires : goal.rows_of-requires
rows_of-requires c =
    subst (AreBelow c.args.size) (sym (c.deref-2.ensures.value ∙ c.in_ok-along.ensures)) (along_below c.args.junctions.now.keys c.args.size c.args.pairs.now c.requires)

pub rows_of-requires-2 : goal.rows_of-requires-2
rows_of-requires-2 c =
    subst (AreBelow c.args.size) (sym (c.deref-3.ensures.value ∙ c.in_ok-back.ensures ∙ ap turned (c.deref.ensures.value ∙ c.in_ok-along.ensures)))
    (turned-below c.args.size (along_lines c.args.junctions.now.keys c.args.pairs.now) (along_below c.args.junctions.now.keys c.args.size c.args.pairs.now c.requires))

pub returns-clause-len : goal.returns-clause-len
returns-clause-len c =
    let lines = along_lines c.args.junctions.now.keys c.args.pairs.now in
    let ups = subst (λ (ps : List (ℕ × ℕ)). AreRows ps c.in_ok-parents.parents) (c.deref-2.ensures.value ∙ c.in_ok-along.ensures) c.in_ok-parents.ensures.rows in
    let downs = subst (λ (ps : List (ℕ × ℕ)). AreRows ps c.in_ok-children.children) (c.deref-3.ensures.value ∙ c.in_ok-back.ensures ∙ ap turned (c.deref.ensures.value ∙ c.in_ok-along.ensures)) c.in_ok-children.ensures.rows in
    some_more _ _ (λ x h. (h lines ups downs).0 ∙ c.in_ok-children.ensures.len) c.in_ok-lines.lines c.in_ok-lines.ensures

pub returns-clause-tell : goal.returns-clause-tell
returns-clause-tell c =
    let lines = along_lines c.args.junctions.now.keys c.args.pairs.now in
    let ups = subst (λ (ps : List (ℕ × ℕ)). AreRows ps c.in_ok-parents.parents) (c.deref-2.ensures.value ∙ c.in_ok-along.ensures) c.in_ok-parents.ensures.rows in
    let downs = subst (λ (ps : List (ℕ × ℕ)). AreRows ps c.in_ok-children.children) (c.deref-3.ensures.value ∙ c.in_ok-back.ensures ∙ ap turned (c.deref.ensures.value ∙ c.in_ok-along.ensures)) c.in_ok-children.ensures.rows in
    some_more _ _ (λ x h. (h lines ups downs).1) c.in_ok-lines.lines c.in_ok-lines.ensures

pub returns-clause-tops : goal.returns-clause-tops
returns-clause-tops c =
    let lines = along_lines c.args.junctions.now.keys c.args.pairs.now in
    let ups = subst (λ (ps : List (ℕ × ℕ)). AreRows ps c.in_ok-parents.parents) (c.deref-2.ensures.value ∙ c.in_ok-along.ensures) c.in_ok-parents.ensures.rows in
    let downs = subst (λ (ps : List (ℕ × ℕ)). AreRows ps c.in_ok-children.children) (c.deref-3.ensures.value ∙ c.in_ok-back.ensures ∙ ap turned (c.deref.ensures.value ∙ c.in_ok-along.ensures)) c.in_ok-children.ensures.rows in
    some_more _ _ (λ x h. subst (λ n. AreTops lines n x.tops.items) c.in_ok-parents.ensures.len (h lines ups downs).2) c.in_ok-lines.lines c.in_ok-lines.ensures
