use Rattle.std.proofs.Common.{◌∙◌, List, ℕ, subst, map}
use Rattle.htn_model.specs.Task as model
use Rattle.hddl_names.specs.Members.{AreNamedMembersOf}
use Rattle.hddl_build.proofs.task.types_for.Goals as goal

pub returns-clause-objects : goal.returns-clause-objects
returns-clause-objects c =
    let start = c.args.start.now in
    let lists : List (List ℕ) = map (λ (x : model.ObjectType). x.objects) c.in_ok-found.found.items in
    subst (λ (l : List ℕ). AreNamedMembersOf c.args.types.now c.args.problem.now l lists)
    (c.deref-5.ensures.value ∙ c.in_ok-named.ensures
    ∙ (λ i. model.types_named_in (c.deref.ensures.value i) (c.deref-2.ensures.value i) (c.deref-3.ensures.value i) (c.deref-4.ensures.value i) start.initial_network start.goal))
    c.in_ok-found.ensures.objects
