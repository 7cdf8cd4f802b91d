use Rattle.std.proofs.Common.{◌≡◌, ◌∙◌, ℕ, Some, slice_get, sym, ap}
use Rattle.htn_model.specs.State.{State}
use Rattle.call_rules.specs.Frame.{lift}
use Rattle.state_table.specs.Table.{IsTable, state_of}
use Rattle.call_proof.specs.Masks.{frame_of}
use Rattle.call_nodes.specs.Nodes.{state_at}
use Rattle.call_nodes.proofs.Leading.{numbered_state, some_so}
use Rattle.call_proof.proofs.parts.lifted_of.Goals as goal

pub returns : goal.returns
returns c =
    let n = c.args.nodes.now in
    let mask = c.args.mask.now in
    let whole = c.args.whole.now in
    some_so (λ (k : ℕ). slice_get n.states k ≡ Some c.in_ok-state.state)
    (λ (k : ℕ). IsTable n.atoms
    → state_at n k ≡ lift (frame_of n.atoms mask) (state_of n.atoms whole) (state_at n c.args.part))
    c.number_of.result
    (λ k at table. numbered_state n k c.in_ok-state.state at ∙ c.in_ok-state.ensures.state n.atoms table
    ∙ ap (λ (s : State). lift (frame_of n.atoms mask) (state_of n.atoms whole) s)
    (sym (numbered_state n c.args.part c.in-Some.own.now c.in-Some.ensures)))
    c.number_of.ensures
