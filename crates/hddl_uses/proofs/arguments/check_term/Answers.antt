use Rattle.std.proofs.Common.{OnOk, subst, sym}
use Rattle.hddl_words.specs.declared.term.Term.{Term}
use Rattle.hddl_uses.specs.Contexts.{Fails}
use Rattle.hddl_scope.specs.Findings.{Adds}
use Rattle.hddl_uses.specs.Parts.{Side}
use Rattle.hddl_uses.proofs.arguments.check_term.Goals as goal

pub returns-in-Variable : goal.returns-in-Variable
returns-in-Variable c =
    subst
    (λ (t : Term). OnOk c.check_variable.result (Adds (λ _. ⊥) (Fails c.args.context.now (Side (record { variables = c.args.scope.now; term = t }))) c.args.found.now c.check_variable.new.found))
    (sym c.in-Variable.is) c.check_variable.ensures

pub returns-in-Object : goal.returns-in-Object
returns-in-Object c =
    subst
    (λ (t : Term). OnOk c.check_object.result (Adds (λ _. ⊥) (Fails c.args.context.now (Side (record { variables = c.args.scope.now; term = t }))) c.args.found.now c.check_object.new.found))
    (sym c.in-Object.is) c.check_object.ensures
