use Rattle.std.proofs.Common.{◌∙◌, ap, sym, List}
use Rattle.std.specs.Cmp.Lexicographic.{pointwise}
use Rattle.htn_model.specs.Atom.{Atom, atom_eq}
use Rattle.htn_model.specs.State.{atoms_of, state_eq}
use Rattle.htn_model.specs.AtomOrder.{state_eq-decides}
use Rattle.htn_task.proofs.Equal.{told}
use Rattle.htn_task.proofs.Sets.{atoms_of_view}
use Rattle.htn_task.proofs.state.StatePartialEq.eq.Goals as goal

pub returns-clause-value : goal.returns-clause-value
returns-clause-value c =
    let left = atoms_of_view _ _ c.self.invariant c.self.view_is in
    let right = atoms_of_view _ _ c.other.invariant c.other.view_is in
    c.eq.ensures
    ∙ sym (ap (λ (l : List Atom). pointwise atom_eq l (atoms_of c.args.other.now)) left ∙ ap (λ (l : List Atom). pointwise atom_eq c.self.inside.atoms.items l) right)

pub returns-clause-same : goal.returns-clause-same
returns-clause-same c = told c.eq.result (state_eq c.args.self.now c.args.other.now) (returns-clause-value c) (state_eq-decides c.args.self.now c.args.other.now)
