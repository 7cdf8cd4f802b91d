use Rattle.std.proofs.Common.{◌∙◌, ap, List}
use Rattle.htn_model.specs.Atom.{Atom}
use Rattle.htn_model.specs.Literal.{Action, after}
use Rattle.htn_model.specs.State.{set_of, atoms_of}
use Rattle.htn_task.specs.Merge.{merge, kept}
use Rattle.htn_task.proofs.Sets.{effects_sorted, effects_of_sets}
use Rattle.htn_task.proofs.state.State.after.Goals as goal

pub invariant_of-result : goal.invariant_of-result
invariant_of-result c = rw c.in_ok-atoms.ensures (effects_sorted _ _ c.action.inside.deletes c.atoms.ensures.ascending c.atoms-2.ensures.ascending)

pub returns : goal.returns
returns c =
    ap set_of c.in_ok-atoms.ensures
    ∙ ap (λ (l : List Atom). set_of (merge (kept c.action.inside.deletes l) c.atoms-2.result.now)) c.atoms.ensures.value
    ∙ ap (λ (l : List Atom). set_of (merge (kept c.action.inside.deletes (atoms_of c.args.self.now)) l)) c.atoms-2.ensures.value
    ∙ effects_of_sets c.args.self.now c.action.inside.deletes c.action.inside.adds
    ∙ ap (λ (a : Action). after c.args.self.now a) c.action.view_is
