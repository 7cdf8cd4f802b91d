use Rattle.std.proofs.Common.{◌∙◌, List, subst}
use Rattle.hddl_meaning.specs.Mentions.{Text}
use Rattle.hddl_meaning.specs.Uses.{Use}
use Rattle.hddl_meaning.specs.Items.{task_signatures}
use Rattle.hddl_scope.specs.Findings.{Adds}
use Rattle.hddl_uses.specs.Parts.{UseFails}
use Rattle.hddl_uses.proofs.Counting.{compound_first}
use Rattle.hddl_uses.proofs.uses.check_decomposed.Goals as goal

pub returns : goal.returns
returns c =
    let context = c.args.context.now in
    let d = context.domain.now in
    let all = task_signatures d in
    let u : Use = record { variables = c.args.scope.now; atom = c.args.task.now } in
    subst (λ (names : List Text). Adds (λ _. ⊥) (UseFails d context.problem.now context.source names all u) c.args.found.now c.check_use.new.found)
    (compound_first d c.len-compound.result c.len-compound.ensures)
    (c.in_ok-check_use.ensures all context.known_declared.tasks)
