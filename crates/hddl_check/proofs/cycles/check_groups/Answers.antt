use Rattle.std.proofs.Common.{refl, ap, map, subst, sym, List}
use Rattle.std.proofs.lemmas.List.{take_all}
use Rattle.hddl_words.specs.Names.{Name}
use Rattle.hddl_words.specs.declared.term.NameGroup.{NameGroup}
use Rattle.hddl_meaning.specs.Mentions.{IsIn, typed_names}
use Rattle.hddl_names.specs.Cycles.{typed_name}
use Rattle.hddl_check.specs.Cycles.{CycleFails}
use Rattle.hddl_scope.specs.Findings.{AddsAny}
use Rattle.hddl_scope.proofs.Adding.{Adds-list, Adds-next, Adds-nil}
use Rattle.hddl_check.proofs.Cyclic.{at_index, in_groups}
use Rattle.hddl_check.proofs.cycles.check_groups.Goals as goal

pub loop-group-init : goal.loop-group-init
loop-group-init c = Adds-nil (λ _ _. ⊥) (CycleFails c.args.types.now) refl

pub check_declarations-requires : goal.check_declarations-requires
check_declarations-requires c = λ x at.
    let g = c.group-item.result in
    subst (λ gs. IsIn x (typed_names gs)) c.requires
    (in_groups c.args.groups.now g (at_index c.args.groups.now c.loop-group.group-index g c.loop-group-test.true c.group-item.is) x
    (subst (λ ns. IsIn x (map (typed_name g.of_type) ns)) c.as_slice.ensures at))

pub loop-group-preserved : goal.loop-group-preserved
loop-group-preserved c =
    let g = c.group-item.result in
    Adds-next (λ _ _. ⊥) (CycleFails c.args.types.now) (λ (g : NameGroup). map (typed_name g.of_type) g.names) c.args.groups.now c.loop-group.group-index g c.loop-group-test.true
    c.group-item.is c.loop-group.invariant
    (subst (λ ns. AddsAny (λ _ _. ⊥) (CycleFails c.args.types.now) (map (typed_name g.of_type) ns) c.loop-group.found c.check_declarations.new.found) c.as_slice.ensures
    c.in_ok-check_declarations.ensures)

pub returns : goal.returns
returns c =
    Adds-list (λ _ _. ⊥) (CycleFails c.args.types.now) (ap typed_names (take_all c.loop-group.group-index c.args.groups.now c.loop-group-test.false)) c.loop-group.invariant
