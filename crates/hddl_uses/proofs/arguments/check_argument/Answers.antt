use Rattle.std.proofs.Common.{OnOk, subst, sym}
use Rattle.hddl_words.specs.declared.term.Term.{Term}
use Rattle.hddl_scope.specs.Findings.{Adds}
use Rattle.hddl_uses.specs.Contexts.{ArgumentFails}
use Rattle.hddl_uses.proofs.arguments.check_argument.Goals as goal

pub returns-in-Variable : goal.returns-in-Variable
returns-in-Variable c =
    subst
    (λ (t : Term). OnOk c.check_variable_argument.result (Adds (λ _. ⊥) (ArgumentFails c.args.context.now c.args.scope.now (t, c.args.place.now)) c.args.found.now c.check_variable_argument.new.found))
    (sym c.in-Variable.is) c.check_variable_argument.ensures

pub returns-in-Object : goal.returns-in-Object
returns-in-Object c =
    subst
    (λ (t : Term). OnOk c.check_object_argument.result (Adds (λ _. ⊥) (ArgumentFails c.args.context.now c.args.scope.now (t, c.args.place.now)) c.args.found.now c.check_object_argument.new.found))
    (sym c.in-Object.is) (c.check_object_argument.ensures c.args.scope.now)
