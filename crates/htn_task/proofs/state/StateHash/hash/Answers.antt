use Rattle.std.proofs.Common.{◌∙◌, ap, sym, List}
use Rattle.std.specs.List.{fold}
use Rattle.std.specs.Hash as fed
use Rattle.htn_model.specs.Atom.{Atom, atom_hash}
use Rattle.htn_task.proofs.Sets.{atoms_of_view}
use Rattle.htn_task.proofs.state.StateHash.hash.Goals as goal

pub returns : goal.returns
returns g c =
    c.hash.ensures
    ∙ ap (λ (atoms : List Atom). fold g.H.Hasher.write c.args.state.now (fed.slice atom_hash atoms)) (sym (atoms_of_view _ _ c.self.invariant c.self.view_is))
