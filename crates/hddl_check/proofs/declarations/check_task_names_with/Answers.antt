use Rattle.std.proofs.Common.{[], ◌∷◌, ◌++◌, subst, List, map}
use Rattle.hddl_meaning.specs.Items.{most_declarations}
use Rattle.hddl_meaning.specs.Mentions.{Mention, mention_of}
use Rattle.hddl_uses.specs.Contexts.{Fails, PassedOver}
use Rattle.hddl_scope.specs.Findings.{Adds}
use Rattle.hddl_uses.specs.Parts.{Different, Limited}
use Rattle.hddl_scope.proofs.Adding.{Adds-cons, Adds-single}
use Rattle.hddl_check.proofs.declarations.check_task_names_with.Goals as goal

pub returns : goal.returns
returns c =
    let O = PassedOver c.args.context.now in
    let P = Fails c.args.context.now in
    let tasks : List Mention = map (λ x. mention_of x.name) c.args.domain.now.tasks in
    let actions : List Mention = map (λ x. mention_of x.name) c.args.domain.now.actions in
    Adds-cons O P (Different actions) (Different (tasks ++ actions) ∷ Limited most_declarations tasks ∷ Limited most_declarations actions ∷ [])
    (subst (λ ms. Adds (O (Different ms)) (P (Different ms)) c.args.found.now c.check_different.new.found) c.requires c.in_ok-check_different.ensures)
    (Adds-cons O P (Different (tasks ++ actions)) (Limited most_declarations tasks ∷ Limited most_declarations actions ∷ []) c.in_ok-check_all_task_names.ensures
    (Adds-cons O P (Limited most_declarations tasks) (Limited most_declarations actions ∷ []) c.in_ok-check_task_count.ensures
    (Adds-single O P (Limited most_declarations actions)
    (subst (λ ms. Adds (O (Limited most_declarations ms)) (P (Limited most_declarations ms)) c.check_task_count.new.found c.check_limit.new.found) c.requires c.in_ok-check_limit.ensures))))
