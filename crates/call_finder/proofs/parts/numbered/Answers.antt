use Rattle.std.proofs.Common.{◌∙◌, ℕ, List, ap, slice_get, sym}
use Rattle.htn_model.specs.Task.{Task}
use Rattle.state_table.specs.Table.{IsSetOf}
use Rattle.call_nodes.specs.Nodes.{AreNodes}
use Rattle.call_nodes.proofs.Leading.{lent}
use Rattle.call_finder.proofs.parts.numbered.Goals as goal

pub returns : goal.returns
returns c =
    let n = c.args.nodes.now in
    lent (λ (s : List ℕ). (t : Task) → AreNodes t n → IsSetOf n.atoms s) c.states.result.now c.args.number c.get.result
    c.get.ensures.lookup
    (λ s at t own. own.sets c.args.number s (ap (λ (l : List (List ℕ)). slice_get l c.args.number) (sym c.states.ensures) ∙ at))
