use Rattle.std.proofs.Common.{List, subst}
use Rattle.hddl_words.specs.declared.term.Term.{Term}
use Rattle.hddl_scope.specs.Findings.{Adds}
use Rattle.hddl_uses.specs.Contexts.{AnyArgumentFails}
use Rattle.hddl_scope.proofs.Adding.{Adds-both}
use Rattle.hddl_uses.proofs.uses.check_places.Goals as goal

pub returns : goal.returns
returns c =
    let context = c.args.context.now in
    Adds-both
    c.in_ok-check_count.ensures
    (subst (λ (l : List Term). Adds (λ _. ⊥) (AnyArgumentFails context c.args.scope.now l c.args.places.now) c.check_count.new.found c.check_arguments.new.found) c.as_slice.ensures
    c.in_ok-check_arguments.ensures)
