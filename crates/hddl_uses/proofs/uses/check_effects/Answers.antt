use Rattle.std.proofs.Common.{map, refl}
use Rattle.std.proofs.lemmas.List.{take_all}
use Rattle.hddl_words.specs.declared.condition.LiteralText.{LiteralText}
use Rattle.hddl_meaning.specs.Uses.{Use}
use Rattle.hddl_meaning.specs.declared.fault.CheckFault.{CheckFault}
use Rattle.hddl_uses.specs.Contexts.{Fails, PassedOver}
use Rattle.hddl_uses.specs.Parts.{Atom}
use Rattle.hddl_scope.proofs.Adding.{Adds-item, Adds-list, Adds-map, Adds-nil}
use Rattle.hddl_uses.proofs.uses.check_effects.Goals as goal

pub loop-effect-init : goal.loop-effect-init
loop-effect-init c =
    Adds-nil (λ (x : LiteralText). PassedOver c.args.context.now (Atom (record { variables = c.args.scope.now; atom = x.atom })))
    (λ (x : LiteralText). Fails c.args.context.now (Atom (record { variables = c.args.scope.now; atom = x.atom }))) refl

pub loop-effect-preserved : goal.loop-effect-preserved
loop-effect-preserved c =
    Adds-item (λ (x : LiteralText). PassedOver c.args.context.now (Atom (record { variables = c.args.scope.now; atom = x.atom })))
    (λ (x : LiteralText). Fails c.args.context.now (Atom (record { variables = c.args.scope.now; atom = x.atom }))) c.args.effects.now c.loop-effect.effect-index c.effect-item.result
    c.loop-effect-test.true c.effect-item.is c.loop-effect.invariant c.in_ok-check_atom.ensures

pub returns : goal.returns
returns c =
    let O = PassedOver c.args.context.now in
    let P = Fails c.args.context.now in
    let as_use : LiteralText → Use = λ x. record { variables = c.args.scope.now; atom = x.atom } in
    let N : LiteralText → CheckFault → Type 0 = λ x. O (Atom (as_use x)) in
    let R : LiteralText → CheckFault → Type 0 = λ x. P (Atom (as_use x)) in
    Adds-map O P Atom (map as_use c.args.effects.now)
    (Adds-map (λ u. O (Atom u)) (λ u. P (Atom u)) as_use c.args.effects.now (Adds-list N R (take_all c.loop-effect.effect-index c.args.effects.now c.loop-effect-test.false) c.loop-effect.invariant))
