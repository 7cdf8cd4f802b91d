use Rattle.std.proofs.Common.{◌≡◌, All, length, subst, sym}
use Rattle.std.specs.Prelude.{Result, Ok, Err, IfOk}
use Rattle.htn_model.specs.Instance.{Instance}
use Rattle.task_machine.proofs.Square.{methods_square}
use Rattle.task_machine.proofs.instances.instances_of.Goals as goal

-- what follows of what a call returned
then_ok : {A E : Type 0} (P Q : A → Type 0) → ((a : A) → P a → Q a) → (r : Result A E) → IfOk r P → IfOk r Q
then_ok P Q implies (Ok a) p = implies a p
then_ok P Q implies (Err e) p = tt

pub returns-in-Task-clause-square : goal.returns-in-Task-clause-square
returns-in-Task-clause-square c =
    then_ok _ _
    (λ v is. subst (All (λ (i : Instance). length i.network.order ≡ length i.network.children)) (sym is) (methods_square c.args.task.now c.initial_atoms-initial.ensures.typed c.in-Task.goal))
    c.distinct_live_methods_of.result c.distinct_live_methods_of.ensures
