use Rattle.std.proofs.Common.{◌∙◌, ap, subst}
use Rattle.hddl_words.specs.declared.term.NameGroup.{NameGroup}
use Rattle.std.proofs.Common.{List}
use Rattle.hddl_meaning.specs.Mentions.{typed_names}
use Rattle.hddl_check.specs.Cycles.{CycleFails}
use Rattle.hddl_scope.specs.Findings.{AddsAny}
use Rattle.hddl_check.proofs.Cyclic.{cycles_added}
use Rattle.hddl_check.proofs.cycles.check_cycles.Goals as goal

pub returns : goal.returns
returns c =
    cycles_added c.args.types.now
    (subst (λ (gs : List NameGroup). AddsAny (λ _ _. ⊥) (CycleFails c.args.types.now) (typed_names gs) c.args.found.now c.check_groups.new.found)
    (c.as_slice-groups.ensures ∙ ap (λ d. d.types) c.domain.ensures) c.in_ok-check_groups.ensures)
