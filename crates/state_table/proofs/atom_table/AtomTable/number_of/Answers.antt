use Rattle.std.proofs.Common.{◌≡◌, ℕ, slice_get, Some, subst, sym}
use Rattle.htn_model.specs.Atom.{atom_eq}
use Rattle.htn_model.specs.AtomOrder.{atom_eq-decides}
use Rattle.state_table.specs.Table.{Table}
use Rattle.state_table.proofs.Keys.{absent, found, none_anyway}
use Rattle.state_table.proofs.atom_table.AtomTable.number_of.Goals as goal

pub returns-in_err-place-clause-none : goal.returns-in_err-place-clause-none
returns-in_err-place-clause-none c =
    none_anyway c.from_residual.result
    (subst (λ (t : Table). (n : ℕ) → slice_get t.atoms n ≡ Some c.args.atom.now → ⊥) c.self.view_is
    (absent atom_eq atom_eq-decides c.args.atom.now c.self.inside.atoms.keys (sym c.in_err-place.ensures.index)))

pub returns-clause-some : goal.returns-clause-some
returns-clause-some c =
    subst (λ (t : Table). slice_get t.atoms c.in_ok-place.place ≡ Some c.args.atom.now) c.self.view_is
    (found atom_eq atom_eq-decides c.args.atom.now c.self.inside.atoms.keys c.in_ok-place.place (sym c.in_ok-place.ensures.index))
