use Rattle.std.proofs.Common.{refl, get_or, subst, sym, ap, map}
use Rattle.std.proofs.lemmas.List.{take_all}
use Rattle.hddl_words.specs.Names.{Name}
use Rattle.hddl_meaning.specs.Mentions.{IsIn}
use Rattle.hddl_meaning.specs.declared.fault.CheckFault.{CheckFault}
use Rattle.hddl_meaning.proofs.Listed.{in_map}
use Rattle.hddl_names.specs.Cycles.{typed_name}
use Rattle.hddl_check.specs.Cycles.{CycleFails}
use Rattle.hddl_scope.proofs.Adding.{Adds-item, Adds-list, Adds-map, Adds-nil}
use Rattle.hddl_check.proofs.Cyclic.{at_index}
use Rattle.hddl_check.proofs.cycles.check_declarations.Goals as goal

pub loop-name-init : goal.loop-name-init
loop-name-init c = Adds-nil (λ _ _. ⊥) (λ x. CycleFails c.args.types.now (typed_name c.args.parent.now x)) refl

pub check_declaration-requires : goal.check_declaration-requires
check_declaration-requires c =
    c.requires (typed_name c.args.parent.now c.name-item.result)
    (in_map (typed_name c.args.parent.now) c.name-item.result c.args.names.now (at_index c.args.names.now c.loop-name.name-index c.name-item.result c.loop-name-test.true c.name-item.is))

pub loop-name-preserved : goal.loop-name-preserved
loop-name-preserved c =
    Adds-item (λ _ _. ⊥) (λ x. CycleFails c.args.types.now (typed_name c.args.parent.now x)) c.args.names.now c.loop-name.name-index c.name-item.result c.loop-name-test.true
    c.name-item.is c.loop-name.invariant c.in_ok-check_declaration.ensures

pub returns : goal.returns
returns c =
    Adds-map (λ _ _. ⊥) (CycleFails c.args.types.now) (typed_name c.args.parent.now) c.args.names.now
    (Adds-list (λ _ _. ⊥) (λ x. CycleFails c.args.types.now (typed_name c.args.parent.now x)) (take_all c.loop-name.name-index c.args.names.now c.loop-name-test.false) c.loop-name.invariant)
