use Rattle.std.proofs.Common.{◌≡◌, ◌⊎◌, ℕ, List, Some, true, sym, subst, arith, get_or}
use Rattle.std.specs.List.{Contains}
use Rattle.hddl_names.specs.Closures.{AreSound, set_of}
use Rattle.hddl_names.specs.NumberSets.{has}
use Rattle.hddl_names.proofs.Junctions.{sound_put}
use Rattle.hddl_names.proofs.closure.gathered.Goals as goal
use Rattle.hddl_names.proofs.closure.gathered.Goals.{then-number-len, else-number-len}

pub loop-number-preserved : goal.loop-number-preserved
loop-number-preserved c =
    λ pairs downs.
    let so_far = c.loop-number.invariant pairs downs in
    let number = get_or c.args.order.now c.loop-number.number-index 0 in
    elim c.if-number-len.branch [
      | then-number-len w ↦
          let count = c.len-in-loop-number.ensures in
          let fits = w.if-number-len.true in
          subst (λ v. AreSound pairs c.args.junctions.now.keys v.items) (sym w.sets-is)
          (sound_put pairs c.args.junctions.now.keys c.args.children.now c.loop-number.sets.items number c.row_or_empty.result.now c.in_ok-set.set c.get_index_of-own.result downs so_far
          (omega (arith, count, fits)) c.get_index_of-own.ensures.index c.row_or_empty.ensures
          (subst (λ (xs : List (List ℕ)). (i : ℕ) → has c.in_ok-set.set i ≡ true → (c.get_index_of-own.result ≡ Some i) ⊎ ((child : ℕ) × Contains c.row_or_empty.result.now child × (has (set_of xs child) i ≡ true)))
          c.as_slice.ensures.value c.in_ok-set.ensures))
      | else-number-len w ↦ subst (λ v. AreSound pairs c.args.junctions.now.keys v.items) (sym w.sets-is) so_far
    ]
