use Rattle.std.proofs.Common.{◌∙◌, ap}
use Rattle.std.proofs.lemmas.List.Filters.{dedup_is}
use Rattle.htn_model.specs.State.{set_of}
use Rattle.htn_task.proofs.Sets.{sorted-dedup, set_of-dedup, set_of-IsPermutation}
use Rattle.htn_task.proofs.state.State.of.Goals as goal

pub invariant_of-result : goal.invariant_of-result
invariant_of-result c = rw (dedup_is _ _ _ c.dedup.ensures.filtered) (sorted-dedup _ c.sort_unstable.ensures.sorted)

pub returns : goal.returns
returns c =
    ap set_of (dedup_is _ _ _ c.dedup.ensures.filtered)
    ∙ set_of-dedup _
    ∙ set_of-IsPermutation _ _ c.sort_unstable.ensures.permutation
    ∙ ap set_of (c.in_ok-atoms.ensures.items_if_clones_equal (λ x y e. e))
