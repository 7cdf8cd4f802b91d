use Rattle.std.proofs.Common.{◌≡◌, ◌∙◌, ℕ, List, Some, slice_get, sym, ap}
use Rattle.call_nodes.proofs.Leading.{lent}
use Rattle.call_proof.proofs.parts.numbered.Goals as goal

pub returns : goal.returns
returns c =
    lent (λ (s : List ℕ). slice_get c.args.nodes.now.states c.args.number ≡ Some s) c.states.result.now c.args.number
    c.get.result c.get.ensures.lookup
    (λ s at. ap (λ (l : List (List ℕ)). slice_get l c.args.number) (sym c.states.ensures) ∙ at)
