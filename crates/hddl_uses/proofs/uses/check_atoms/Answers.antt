use Rattle.std.proofs.Common.{map, refl}
use Rattle.std.proofs.lemmas.List.{take_all}
use Rattle.hddl_words.specs.declared.term.AtomText.{AtomText}
use Rattle.hddl_meaning.specs.Uses.{Use}
use Rattle.hddl_meaning.specs.declared.fault.CheckFault.{CheckFault}
use Rattle.hddl_uses.specs.Contexts.{Fails, PassedOver}
use Rattle.hddl_uses.specs.Parts.{Atom}
use Rattle.hddl_scope.proofs.Adding.{Adds-item, Adds-list, Adds-map, Adds-nil}
use Rattle.hddl_uses.proofs.uses.check_atoms.Goals as goal

pub loop-atom-init : goal.loop-atom-init
loop-atom-init c =
    Adds-nil (λ (x : AtomText). PassedOver c.args.context.now (Atom (record { variables = c.args.scope.now; atom = x })))
    (λ (x : AtomText). Fails c.args.context.now (Atom (record { variables = c.args.scope.now; atom = x }))) refl

pub loop-atom-preserved : goal.loop-atom-preserved
loop-atom-preserved c =
    Adds-item (λ (x : AtomText). PassedOver c.args.context.now (Atom (record { variables = c.args.scope.now; atom = x })))
    (λ (x : AtomText). Fails c.args.context.now (Atom (record { variables = c.args.scope.now; atom = x }))) c.args.atoms.now c.loop-atom.atom-index c.atom-item.result
    c.loop-atom-test.true c.atom-item.is c.loop-atom.invariant c.in_ok-check_atom.ensures

pub returns : goal.returns
returns c =
    let O = PassedOver c.args.context.now in
    let P = Fails c.args.context.now in
    let as_use : AtomText → Use = λ x. record { variables = c.args.scope.now; atom = x } in
    let N : AtomText → CheckFault → Type 0 = λ x. O (Atom (as_use x)) in
    let R : AtomText → CheckFault → Type 0 = λ x. P (Atom (as_use x)) in
    Adds-map O P Atom (map as_use c.args.atoms.now)
    (Adds-map (λ u. O (Atom u)) (λ u. P (Atom u)) as_use c.args.atoms.now (Adds-list N R (take_all c.loop-atom.atom-index c.args.atoms.now c.loop-atom-test.false) c.loop-atom.invariant))
