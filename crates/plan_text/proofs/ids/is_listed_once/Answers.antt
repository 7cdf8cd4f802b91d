use Rattle.std.proofs.Common.{◌++◌, sym, subst}
use Rattle.htn_model.specs.PlanFile.{IsWithoutRepeats, all_children}
use Rattle.plan_text.proofs.Adding.{refused_left}
use Rattle.plan_text.proofs.ids.is_listed_once.Goals as goal

pub returns-then-not-branch : goal.returns-then-not-branch
returns-then-not-branch c = λ d. refused_left c.new-ids.result.keys c.add_all.new.ids.keys c.roots.result.now (all_children c.args.file.now.decompositions)
    c.in_ok-add_all.field-0 c.new-ids.ensures.empty c.if-not-branch.true c.in_ok-add_all.ensures
    (subst (λ ls. IsWithoutRepeats (ls ++ all_children c.args.file.now.decompositions)) (sym c.roots.ensures.value) d)
