use Rattle.std.proofs.Common.{◌≡◌, ◌∙◌, ◌<◌, ℕ, List, Some, inl, inr, length, get_or, slice_get, sym, ap, subst, arith}
use Rattle.std.proofs.lemmas.Bool.{cases_lt}
use Rattle.std.proofs.lemmas.Option.{same_Some, slice_get-get_or, slice_get_within}
use Rattle.htn_ground.specs.Views.{child_view}
use Rattle.htn_ground.specs.declared.child.Child.{Child as Node}
use Rattle.heuristics.specs.CheckedNeeds.{IsLeafRight}
use Rattle.heuristics.specs.declared.rows.Row.{Row}
use Rattle.heuristics.proofs.needs.Needs.are_leaves_right.Goals as goal

pub loop-number-preserved : goal.loop-number-preserved
loop-number-preserved c = λ t graph k r low at x there. elim (cases_lt k c.loop-number.number) [
  | inl less ↦ c.loop-number.invariant t graph k r less at x there
  | inr past ↦
      (let n = c.args.self.now in
      let i = c.loop-number.number in
      let item = c.row-item.result in
      let leaf = c.in-Some.leaf.now in
      let place : k ≡ i = omega (arith, low, past) in
      let rows = c.deref-row-items.ensures.value in
      let inside : i < length n.rows.leaf_rows.items = (let long = ap length rows in omega (arith, long, c.loop-number-test.true)) in
      let is : item ≡ get_or n.rows.leaf_rows.items i item = c.row-item.is ∙ ap (λ (l : List Row). get_or l i item) rows in
      let same_row : item ≡ r = sym (same_Some r item (sym at ∙ ap (slice_get n.rows.leaf_rows.items) place ∙ slice_get-get_or n.rows.leaf_rows.items i item inside ∙ ap Some (sym is))) in
      let found = c.in-Some.ensures.lookup in
      let leaf_at : slice_get c.as_slice-leaves.result.now i ≡ Some leaf = slice_get-get_or c.as_slice-leaves.result.now i leaf found.3.0 ∙ ap Some (sym found.1) in
      let same_leaf : leaf ≡ x = sym (same_Some x leaf (sym there ∙ ap (slice_get n.rows.leaves.keys) place ∙ ap (λ (l : List Node). slice_get l i) (sym c.as_slice-leaves.ensures.keys) ∙ leaf_at)) in
      subst (λ (y : Node). IsLeafRight t n (child_view y) r) same_leaf
      (subst (λ (q : Row). IsLeafRight t n (child_view leaf) q) same_row (c.in_ok-is_right.ensures c.if-not-is_right.false t graph)))
]

pub returns : goal.returns
returns c = λ _ t graph k r at x there.
    let inside = slice_get_within c.args.self.now.rows.leaf_rows.items k r at in
    let long = ap length c.deref-row-items.ensures.value in
    c.loop-number.invariant t graph k r (omega (arith, inside, long, c.loop-number-test.false)) at x there
