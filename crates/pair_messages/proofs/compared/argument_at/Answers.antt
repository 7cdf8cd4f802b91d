use Rattle.std.proofs.Common.{IfSome, subst, sym}
use Rattle.hddl_words.specs.declared.term.Term.{Term}
use Rattle.pair_messages.specs.Notes.{IsArgument}
use Rattle.pair_messages.specs.Stands.{in_force}
use Rattle.pair_messages.proofs.compared.argument_at.Goals as goal

pub returns-in_ok-of_variable-in-Variable : goal.returns-in_ok-of_variable-in-Variable
returns-in_ok-of_variable-in-Variable c =
    let t = c.args.index.now.texts.now in
    subst (λ (x : Term). IfSome c.in_ok-of_variable-in-Variable.of_variable (IsArgument t.domain_tree.now t.problem_tree.now c.args.side (in_force c.args.scope.now) x)) (sym c.in-Variable.is)
    c.in_ok-of_variable-in-Variable.ensures

pub returns-in_ok-of_object-in-Object : goal.returns-in_ok-of_object-in-Object
returns-in_ok-of_object-in-Object c =
    let t = c.args.index.now.texts.now in
    subst (λ (x : Term). IfSome c.in_ok-of_object-in-Object.of_object (IsArgument t.domain_tree.now t.problem_tree.now c.args.side (in_force c.args.scope.now) x)) (sym c.in-Object.is)
    c.in_ok-of_object-in-Object.ensures
