use Rattle.std.proofs.Common.{List, subst, sym, ◌∙◌, ℕ}
use Rattle.std.specs.List.Sorted.{IsStrictlySortedBy}
use Rattle.std.specs.Ordering.{nat_cmp}
use Rattle.std.proofs.lemmas.List.Kept.{IsStrictlySortedBy-filter}
use Rattle.htn_model.specs.Task.{objects_of}
use Rattle.htn_ground.specs.Search.{singles_of}
use Rattle.htn_ground.proofs.Allowed.{all_kept}
use Rattle.htn_ground.proofs.instances.narrow.Goals as goal

pub returns-in-Some-clause-ascending : goal.returns-in-Some-clause-ascending
returns-in-Some-clause-ascending c =
    let test = singles_of c.args.task.now c.args.conditions.now c.args.at in
    subst (λ (l : List ℕ). IsStrictlySortedBy nat_cmp l) (sym c.in_ok-one.ensures) (IsStrictlySortedBy-filter nat_cmp test c.objects_of-objects.result.now c.objects_of-objects.ensures.ascending)

pub returns-then-allow_all-clause-kept : goal.returns-then-allow_all-clause-kept
returns-then-allow_all-clause-kept c =
    let t = c.args.task.now in
    let test = singles_of t c.args.conditions.now c.args.at in
    c.in_ok-all.ensures ∙ c.objects_of-objects.ensures.value ∙ sym (all_kept test (objects_of t c.args.type_number) (λ o has. c.allow_all.ensures c.if-allow_all.true t o has))

pub returns-clause-ascending : goal.returns-clause-ascending
returns-clause-ascending c =
    let test = singles_of c.args.task.now c.args.conditions.now c.args.at in
    subst (λ (l : List ℕ). IsStrictlySortedBy nat_cmp l) (sym c.in_ok-kept.ensures) (IsStrictlySortedBy-filter nat_cmp test c.objects_of-objects.result.now c.objects_of-objects.ensures.ascending)
