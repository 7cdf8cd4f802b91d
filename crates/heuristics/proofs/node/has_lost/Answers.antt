use Rattle.std.proofs.Common.{◌∙◌, ◌<◌, All, List, ℕ, ap, get_or, length, map, subst, sym}
use Rattle.std.specs.List.{list_any}
use Rattle.std.proofs.lemmas.List.{take_all}
use Rattle.htn_model.specs.Choice.{child_of}
use Rattle.network_table.specs.Networks.{children}
use Rattle.heuristics.specs.Prospects.{is_lost}
use Rattle.heuristics.proofs.StoredNeeds.{any_at, any_more, any_none}
use Rattle.heuristics.proofs.NotedNeeds.{node_at}
use Rattle.heuristics.proofs.node.has_lost.Goals as goal

-- each number is that of a node of which it is known
pub bounds-nodes-id : goal.bounds-nodes-id
bounds-nodes-id c = subst (λ (l : List ℕ). All (λ id. id < length c.args.nodes.now) l) (sym c.nodes-ids.ensures) c.requires c.loop-id.id-index 0 c.loop-id-test.true

pub loop-id-init : goal.loop-id-init
loop-id-init c = λ p atoms networks are. any_none (is_lost p) (child_of (children networks)) c.nodes-ids.result.now

pub loop-id-preserved : goal.loop-id-preserved
loop-id-preserved c = λ p atoms networks are.
    let k = c.loop-id.id-index in
    let ids = c.nodes-ids.result.now in
    let nodes = c.args.nodes.now in
    let node = c.index-nodes-id.result in
    let within = subst (λ (l : List ℕ). All (λ id. id < length nodes) l) (sym c.nodes-ids.ensures) c.requires in
    let here = node_at p atoms networks nodes (get_or ids k 0) node (within k 0 c.loop-id-test.true) c.index-nodes-id.is are in
    any_more (is_lost p) (child_of (children networks)) ids k 0 c.loop-id-test.true (sym here.lost ∙ c.if-node.false) (c.loop-id.invariant p atoms networks are)

pub returns-then-node : goal.returns-then-node
returns-then-node c = λ p atoms networks are.
    let k = c.loop-id.id-index in
    let ids = c.nodes-ids.result.now in
    let nodes = c.args.nodes.now in
    let child = child_of (children networks) in
    let within = subst (λ (l : List ℕ). All (λ id. id < length nodes) l) (sym c.nodes-ids.ensures) c.requires in
    let here = node_at p atoms networks nodes (get_or ids k 0) c.index-nodes-id.result (within k 0 c.loop-id-test.true) c.index-nodes-id.is are in
    sym (any_at (is_lost p) child ids k 0 c.loop-id-test.true (sym here.lost ∙ c.if-node.true)) ∙ ap (λ (l : List ℕ). list_any (is_lost p) (map child l)) c.nodes-ids.ensures

pub returns : goal.returns
returns c = λ p atoms networks are.
    let node = child_of (children networks) in
    let ids = c.nodes-ids.result.now in
    let all = take_all c.loop-id.id-index ids c.loop-id-test.false ∙ c.nodes-ids.ensures in
    sym (sym (ap (λ (l : List ℕ). list_any (is_lost p) (map node l)) all) ∙ c.loop-id.invariant p atoms networks are)
