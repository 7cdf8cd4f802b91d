use Rattle.std.proofs.Common.{◌≡◌, subst, true, false, option_map, refl}
use Rattle.std.proofs.lemmas.List.{take_all}
use Rattle.hddl_meaning.specs.Mentions.{mention_of, typed_names}
use Rattle.hddl_meaning.specs.Types.{text_or_object}
use Rattle.hddl_uses.specs.Known.{AllTyped}
use Rattle.hddl_check.proofs.KnownTypes.{declared_type, empty_typed, group_typed, type_of_group, typed_next, undeclared_type}
use Rattle.hddl_check.proofs.objects.are_typed.Goals.{else-not-is_empty-via-then-not-is_empty+in_ok-type_of+else-is_none, else-not-is_empty-via-else-not-is_empty}
use Rattle.hddl_check.proofs.objects.are_typed.Goals as goal

pub returns-then-is_none : goal.returns-then-is_none
returns-then-is_none c =
    let d = c.args.types.now in
    let g = c.group-item.result in (
      λ h. absurd (let clash : false ≡ true = h in cc),
      λ all. absurd
          (undeclared_type d (text_or_object (option_map mention_of g.of_type)) c.in_ok-type_of.field-0 c.in_ok-type_of.ensures c.if-is_none.ensures
          (type_of_group d c.args.groups.now c.loop-group.group-index g c.loop-group-test.true c.group-item.is (λ e. let clash : false ≡ true = c.if-not-is_empty.ensures.1 e in cc) all)),
    )

pub loop-group-preserved : goal.loop-group-preserved
loop-group-preserved c =
    let d = c.args.types.now in
    let g = c.group-item.result in
    typed_next d c.args.groups.now c.loop-group.group-index g c.loop-group-test.true c.group-item.is c.loop-group.invariant
    (elim c.else-not-is_empty.branch [
      | else-not-is_empty-via-then-not-is_empty+in_ok-type_of+else-is_none w ↦
          group_typed d g (declared_type d (text_or_object (option_map mention_of g.of_type)) w.in_ok-type_of.field-0 w.in_ok-type_of.ensures w.if-is_none.ensures)
      | else-not-is_empty-via-else-not-is_empty w ↦ empty_typed d g (w.if-not-is_empty.ensures.0 refl)
    ])

pub returns : goal.returns
returns c = (
  λ h. subst (λ gs. AllTyped c.args.types.now (typed_names gs)) (take_all c.loop-group.group-index c.args.groups.now c.loop-group-test.false) c.loop-group.invariant,
  λ all. refl,
)
