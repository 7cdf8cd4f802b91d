use Rattle.std.proofs.Common.{◌∙◌, ap, sym}
use Rattle.htn_model.specs.State.{State, contains}
use Rattle.htn_model.proofs.Sets.{contains-set_of}
use Rattle.htn_task.proofs.Sets.{found}
use Rattle.htn_task.proofs.state.State.contains.Goals as goal

pub returns : goal.returns
returns c =
    let items = c.deref.ensures.value in
    let search = c.binary_search.ensures in
    c.is_ok.ensures.value
    ∙ found _ c.args.atom.now _ (rw items c.self.invariant) search.bound search.position
    ∙ rw items (sym (contains-set_of _ _))
    ∙ ap (λ (s : State). contains s c.args.atom.now) c.self.view_is
