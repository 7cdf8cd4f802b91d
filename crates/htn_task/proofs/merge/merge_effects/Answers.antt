use Rattle.std.proofs.Common.{◌∙◌, ap, sym, arith, List, ◌++◌, ◌+◌, drop, ◌∷◌, ℕ, append-nil}
use Rattle.htn_model.specs.Atom.{Atom, atom_eq}
use Rattle.htn_task.specs.Merge.{merge, kept}
use Rattle.std.proofs.lemmas.List.{drop_all}
use Rattle.htn_task.proofs.Merged.{merge_below_first, merge_same_first, merge_above_first, merge_first_end, kept_in, kept_out, one_more, same_item, pushed_last}
use Rattle.htn_task.proofs.merge.merge_effects.Goals as goal
use Rattle.htn_task.proofs.merge.merge_effects.Goals.{then-loop-added-test+else-lt, else-loop-added-test, then-added-adds+then-eq, else-added-adds, else-added-adds-via-then-added-adds+else-eq, else-added-adds-via-else-added-adds}

pub loop-atom-init : goal.loop-atom-init
loop-atom-init c = (omega arith, ap (λ (l : List Atom). l ++ merge (kept c.args.deletes.now c.args.state.now) c.args.adds.now) c.in_ok-merged.ensures.items)

pub loop-atom-preserved-then-contains : goal.loop-atom-preserved-then-contains
loop-atom-preserved-then-contains c = (
  c.loop-atom.invariant.0,
  ap (λ (l : List Atom). c.loop-atom.merged.items ++ merge l (drop c.loop-atom.added c.args.adds.now))
      (sym (kept_out c.args.deletes.now _ _ c.atom-item.result c.loop-atom-test.true c.atom-item.is (sym c.if-contains.ensures)))
      ∙ c.loop-atom.invariant.1,
)

pub loop-added-init : goal.loop-added-init
loop-added-init c = (
  c.loop-atom.invariant.0,
  ap (λ (l : List Atom). c.loop-atom.merged.items ++ merge l (drop c.loop-atom.added c.args.adds.now))
      (sym (kept_in c.args.deletes.now _ _ c.atom-item.result c.loop-atom-test.true c.atom-item.is (sym c.if-contains.ensures)))
      ∙ c.loop-atom.invariant.1,
)

pub loop-added-preserved : goal.loop-added-preserved
loop-added-preserved c =
    let same = same_item c.args.adds.now c.loop-added.added c.index-adds-added-in-loop-added.result c.index-adds-added.result c.loop-added-test.true c.index-adds-added-in-loop-added.is c.index-adds-added.is in (
      omega arith,
      one_more c.index-adds-added.result c.in_ok-clone.field-0 _ _ _ _ _ c.in_ok-push.ensures.items (c.in_ok-clone.ensures.cases ∙ same)
          (merge_below_first c.atom-item.result (merge (kept c.args.deletes.now (drop (c.loop-atom.atom-index + 1) c.args.state.now))) c.args.adds.now c.loop-added.added c.index-adds-added.result
          c.loop-added-test.true c.index-adds-added.is (sym c.if-lt.ensures))
          c.loop-added.invariant.1,
    )

pub loop-atom-preserved : goal.loop-atom-preserved
loop-atom-preserved c =
    let x = c.atom-item.result in
    let adds = c.args.adds.now in
    let added = c.loop-added.added in
    let next : List Atom → List Atom = merge (kept c.args.deletes.now (drop (c.loop-atom.atom-index + 1) c.args.state.now)) in (
      elim c.if-added-adds.branch [
        | then-added-adds+then-eq w ↦ let is = w.added-is in omega arith
        | else-added-adds w ↦ let is = w.added-is in omega arith
      ],
      one_more x c.in_ok-clone-2.field-0 _ _ _ _ _ c.in_ok-push-2.ensures.items c.in_ok-clone-2.ensures.cases
          (elim c.if-added-adds.branch [
            | then-added-adds+then-eq w ↦
                merge_same_first x next adds added w.index-adds-added-then-added-adds.result w.if-added-adds.true w.index-adds-added-then-added-adds.is (sym w.if-eq.ensures)
                ∙ ap (λ (j : ℕ). x ∷ next (drop j adds)) (sym w.added-is)
            | else-added-adds w ↦
                elim w.else-added-adds.branch [
                  | else-added-adds-via-then-added-adds+else-eq v ↦
                      elim c.loop-added-test.branch [
                        | then-loop-added-test+else-lt u ↦
                            let same = same_item adds added v.index-adds-added-then-added-adds.result u.index-adds-added.result v.if-added-adds.true v.index-adds-added-then-added-adds.is u.index-adds-added.is in
                            merge_above_first x next adds added u.index-adds-added.result v.if-added-adds.true u.index-adds-added.is (sym u.if-lt.ensures)
                            (ap (λ (y : Atom). atom_eq y x) (sym same) ∙ sym v.if-eq.ensures)
                        | else-loop-added-test u ↦ absurd (omega (arith, u.loop-added-test.false, v.if-added-adds.true))
                      ]
                  | else-added-adds-via-else-added-adds v ↦ merge_first_end x next adds added v.if-added-adds.false
                ] ∙ ap (λ (j : ℕ). x ∷ next (drop j adds)) (sym w.added-is)
          ])
          c.loop-added.invariant.1,
    )

pub loop-added-2-init : goal.loop-added-2-init
loop-added-2-init c = (
  c.loop-atom.invariant.0,
  ap (λ (l : List Atom). c.loop-atom.merged.items ++ merge (kept c.args.deletes.now l) (drop c.loop-atom.added c.args.adds.now)) (sym (drop_all _ c.args.state.now c.loop-atom-test.false))
      ∙ c.loop-atom.invariant.1,
)

pub loop-added-2-preserved : goal.loop-added-2-preserved
loop-added-2-preserved c = (
  omega arith,
  pushed_last c.index-adds-added-in-loop-added-2.result c.in_ok-clone-3.field-0 _ _ _ _ _ c.loop-added-2-test.true c.index-adds-added-in-loop-added-2.is
      c.in_ok-push-3.ensures.items c.in_ok-clone-3.ensures.cases c.loop-added-2.invariant.1,
)

pub returns : goal.returns
returns c =
    sym (append-nil c.loop-added-2.merged.items)
    ∙ ap (λ (l : List Atom). c.loop-added-2.merged.items ++ l) (sym (drop_all _ c.args.adds.now c.loop-added-2-test.false))
    ∙ c.loop-added-2.invariant.1
