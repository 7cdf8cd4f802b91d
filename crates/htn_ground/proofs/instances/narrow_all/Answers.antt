use Rattle.std.proofs.Common.{◌++◌, ◌∙◌, ◌∷◌, List, [], subst, sym, ℕ}
use Rattle.std.specs.List.{All}
use Rattle.std.specs.List.Sorted.{IsStrictlySortedBy}
use Rattle.std.specs.Ordering.{nat_cmp}
use Rattle.std.proofs.lemmas.List.Elements.{All-push}
use Rattle.htn_ground.specs.Search.{singles_of}
use Rattle.htn_ground.proofs.Steps.{narrowed_more}
use Rattle.htn_ground.proofs.instances.narrow_all.Goals as goal

pub loop-at-preserved : goal.loop-at-preserved
loop-at-preserved c =
    let t = c.args.task.now in
    let test = singles_of t c.args.conditions.now in
    let i = c.loop-at.at in (
      c.in_ok-push.ensures.items
          ∙ (λ k. c.loop-at.invariant.0 k ++ c.in_ok-narrow.ensures.kept k ∷ [])
          ∙ sym (narrowed_more t test c.parameters-type_number-items.result.now i c.loop-at-test.true),
      subst (λ (ls : List (List ℕ)). All (IsStrictlySortedBy nat_cmp) ls) (sym c.in_ok-push.ensures.items)
          (All-push (IsStrictlySortedBy nat_cmp) c.loop-at.lists.items c.in_ok-narrow.field-0 c.loop-at.invariant.1 c.in_ok-narrow.ensures.ascending),
    )
