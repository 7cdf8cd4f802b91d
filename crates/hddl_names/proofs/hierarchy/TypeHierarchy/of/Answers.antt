use Rattle.std.proofs.Common.{ℕ, List, sym, subst, ◌∙◌, ap, length}
use Rattle.htn_order.specs.Closure.{AreBelow}
use Rattle.hddl_names.specs.Rows.{AreRows, HasSame, turned}
use Rattle.hddl_names.specs.TypeNumbers.{numbered_pairs}
use Rattle.hddl_names.proofs.Parents.{turned-below}
use Rattle.hddl_names.proofs.Collected.{AreCollected, collected-below, collected-same, collected-types}
use Rattle.hddl_names.proofs.Told.{hierarchy, root-reached}
use Rattle.hddl_names.proofs.hierarchy.TypeHierarchy.of.Goals as goal

pub rows_of-requires : goal.rows_of-requires
rows_of-requires c =
    let h : AreCollected c.args.domain.now c.types-names.result.now c.as_slice.result.now c.in_ok-pairs.pairs.items =
    record { named = c.types-names.ensures ∙ c.requires; grouped = c.as_slice.ensures; filtered = c.in_ok-pairs.ensures } in
    collected-below c.args.domain.now c.types-names.result.now c.as_slice.result.now c.in_ok-pairs.pairs.items c.deref-2.result.now c.len.result h c.deref-2.ensures.value c.len.ensures.value

pub rows_of-requires-2 : goal.rows_of-requires-2
rows_of-requires-2 c =
    let h : AreCollected c.args.domain.now c.types-names.result.now c.as_slice.result.now c.in_ok-pairs.pairs.items =
    record { named = c.types-names.ensures ∙ c.requires; grouped = c.as_slice.ensures; filtered = c.in_ok-pairs.ensures } in
    subst (λ (ps : List (ℕ × ℕ)). AreBelow c.len-2.result ps) (sym (c.deref-3.ensures.value ∙ c.in_ok-back.ensures))
    (turned-below c.len-2.result c.deref.result.now
    (collected-below c.args.domain.now c.types-names.result.now c.as_slice.result.now c.in_ok-pairs.pairs.items c.deref.result.now c.len-2.result h c.deref.ensures.value c.len-2.ensures.value))

pub of-requires-clause-below : goal.of-requires-clause-below
of-requires-clause-below c =
    let h : AreCollected c.args.domain.now c.types-names.result.now c.as_slice.result.now c.in_ok-pairs.pairs.items =
    record { named = c.types-names.ensures ∙ c.requires; grouped = c.as_slice.ensures; filtered = c.in_ok-pairs.ensures } in
    subst (λ n. AreBelow n c.deref-4.result.now) (sym c.in_ok-parents.ensures.len)
    (collected-below c.args.domain.now c.types-names.result.now c.as_slice.result.now c.in_ok-pairs.pairs.items c.deref-4.result.now c.len.result h c.deref-4.ensures.value c.len.ensures.value)

pub of-requires-clause-parents : goal.of-requires-clause-parents
of-requires-clause-parents c =
    subst (λ (ps : List (ℕ × ℕ)). AreRows ps c.in_ok-parents.parents) (c.deref-2.ensures.value ∙ sym c.deref-4.ensures.value) c.in_ok-parents.ensures.rows

pub of-requires-clause-children : goal.of-requires-clause-children
of-requires-clause-children c =
    subst (λ (ps : List (ℕ × ℕ)). AreRows ps c.in_ok-children.children) (c.deref-3.ensures.value ∙ c.in_ok-back.ensures ∙ ap turned (c.deref.ensures.value ∙ sym c.deref-4.ensures.value)) c.in_ok-children.ensures.rows

pub of-requires-clause-root : goal.of-requires-clause-root
of-requires-clause-root c =
    let h : AreCollected c.args.domain.now c.types-names.result.now c.as_slice.result.now c.in_ok-pairs.pairs.items =
    record { named = c.types-names.ensures ∙ c.requires; grouped = c.as_slice.ensures; filtered = c.in_ok-pairs.ensures } in
    root-reached c.args.domain.now c.deref-4.result.now _
    (subst (λ (ps : List (ℕ × ℕ)). HasSame ps (numbered_pairs c.args.domain.now)) (sym c.deref-4.ensures.value)
    (collected-same c.args.domain.now c.types-names.result.now c.as_slice.result.now c.in_ok-pairs.pairs.items h))
    (c.in_ok-parents.ensures.len ∙ c.len.ensures.value ∙ ap length h.named)

pub invariant_of-result : goal.invariant_of-result
invariant_of-result c =
    let h : AreCollected c.args.domain.now c.types-names.result.now c.as_slice.result.now c.in_ok-pairs.pairs.items =
    record { named = c.types-names.ensures ∙ c.requires; grouped = c.as_slice.ensures; filtered = c.in_ok-pairs.ensures } in
    hierarchy c.args.domain.now c.types-names.result.now c.in_ok-parents.parents c.in_ok-children.children c.deref-4.result.now _ c.in_ok-closure.closure
    (collected-types c.args.domain.now c.types-names.result.now c.as_slice.result.now c.in_ok-pairs.pairs.items c.deref-2.result.now c.deref-3.result.now c.in_ok-parents.parents
    c.in_ok-children.children c.len.result h c.len.ensures.value c.deref-2.ensures.value (c.deref-3.ensures.value ∙ c.in_ok-back.ensures ∙ ap turned c.deref.ensures.value)
    c.in_ok-parents.ensures.len (c.in_ok-children.ensures.len ∙ c.len-2.ensures.value ∙ sym c.len.ensures.value) c.in_ok-parents.ensures.rows c.in_ok-children.ensures.rows)
    (subst (λ (ps : List (ℕ × ℕ)). HasSame ps (numbered_pairs c.args.domain.now)) (sym c.deref-4.ensures.value)
    (collected-same c.args.domain.now c.types-names.result.now c.as_slice.result.now c.in_ok-pairs.pairs.items h))
    (c.in_ok-parents.ensures.len ∙ c.len.ensures.value) c.in_ok-closure.ensures
