use Rattle.std.proofs.Common.{◌∙◌, sym}
use Rattle.htn_task.proofs.Sets.{atoms_of_view}
use Rattle.htn_task.proofs.state.State.atoms.Goals as goal

pub returns : goal.returns
returns c = record {
  value = c.deref.ensures.value ∙ sym (atoms_of_view _ _ c.self.invariant c.self.view_is);
  ascending = rw c.deref.ensures.value c.self.invariant;
}
