use Rattle.std.proofs.Common.{◌∙◌, ap, map, Some, subst}
use Rattle.htn_ground.specs.Naming.{naming_of}
use Rattle.htn_model.specs.Grounding.{problem_of}
use Rattle.htn_model.specs.Verdict.{AllHave}
use Rattle.htn_verify.specs.Named.{named_tasks}
use Rattle.htn_verify.proofs.Tabled.{all_named}
use Rattle.htn_verify.proofs.details.file_details.Goals as goal

pub run_details-requires-clause-tasks : goal.run_details-requires-clause-tasks
run_details-requires-clause-tasks c =
    let file = c.args.file.now in
    let t = c.new-names.result in
    let alone = all_named (naming_of t) (problem_of t) file (rw c.in_default-2.is at c.in_ok-fault.ensures) c.in_ok-named.named.items c.in_ok-tasks.tasks.items c.in_ok-named.ensures c.in_ok-tasks.ensures in
    ap (map Some) c.deref-2.ensures.value ∙ alone ∙ ap (λ u. named_tasks (naming_of u) file) c.new-names.ensures

pub run_details-requires-clause-have : goal.run_details-requires-clause-have
run_details-requires-clause-have c = subst (λ t. AllHave (naming_of t) (problem_of t) c.args.file.now) c.new-names.ensures (rw c.in_default-2.is at c.in_ok-fault.ensures)
