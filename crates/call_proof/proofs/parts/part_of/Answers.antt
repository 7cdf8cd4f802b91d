use Rattle.std.proofs.Common.{◌≡◌, ℕ, Some, slice_get}
use Rattle.state_table.specs.Table.{IsTable}
use Rattle.call_rules.specs.Framed.{IsPart}
use Rattle.call_nodes.specs.Nodes.{state_at}
use Rattle.call_nodes.proofs.Leading.{some_so}
use Rattle.call_proof.specs.Parts.{frame_at, masks_of}
use Rattle.call_proof.proofs.Lifting.{part_is}
use Rattle.call_proof.proofs.parts.part_of.Goals as goal

pub returns : goal.returns
returns c =
    let n = c.args.nodes.now in
    let masks = masks_of c.args.frames.now in
    some_so (λ (k : ℕ). slice_get n.states k ≡ Some c.in_ok-part.part)
    (λ (k : ℕ). IsTable n.atoms → IsPart (frame_at n masks c.args.node) (state_at n c.args.state) (state_at n k))
    c.number_of.result
    (λ k at table. part_is n.atoms n.states masks c.args.state c.args.node k c.in-Some.whole.now c.in-Some-mask.mask.now
    c.in_ok-part.part c.in-Some.ensures c.in-Some-mask.ensures at (c.in_ok-part.ensures.state n.atoms table))
    c.number_of.ensures
