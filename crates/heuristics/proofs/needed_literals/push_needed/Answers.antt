use Rattle.std.proofs.Common.{◌≡◌, ◌∙◌, ◌&&◌, ◌<◌, All, List, ℕ, get_or, length, sym, ap, subst, arith}
use Rattle.std.specs.List.{flat_map, range_with_len}
use Rattle.std.proofs.lemmas.List.{length-map}
use Rattle.htn_model.specs.Choice.{child_of}
use Rattle.htn_model.specs.Literal.{holds}
use Rattle.htn_model.specs.Problem.{Child}
use Rattle.heuristics.specs.Needs.{needed_at}
use Rattle.heuristics.specs.Rows.{outlook_of, row_of, wants_by}
use Rattle.network_table.specs.Networks.{children}
use Rattle.network_table.specs.Numbered.{network_of}
use Rattle.state_table.specs.Compiled.{all_hold}
use Rattle.state_table.specs.Table.{state_of}
use Rattle.heuristics.specs.StoredNeeds.{AreWants}
use Rattle.heuristics.specs.declared.wants.Want.{Want}
use Rattle.heuristics.proofs.NeededLists.{and_nothing, needed_more}
use Rattle.heuristics.proofs.NotedNeeds.{child_there, node_at}
use Rattle.heuristics.proofs.needed_literals.push_needed.Goals as goal

pub loop-at-init : goal.loop-at-init
loop-at-init c = λ networks atoms later words are together nodes grown. and_nothing (all_hold words c.args.found.now)

-- each number is that of a node of which it is known
pub bounds-nodes-id : goal.bounds-nodes-id
bounds-nodes-id c =
    subst (λ (l : List ℕ). All (λ id. id < length c.args.nodes.now) l) (sym c.nodes-ids.ensures) c.requires.within c.loop-at.at 0 c.loop-at-test.true

pub push_needed_at-requires : goal.push_needed_at-requires
push_needed_at-requires c = let count = ap length c.nodes-ids.ensures in let low = c.loop-at-test.true in let as_many = c.requires.places in omega (arith, count, low, as_many)

pub loop-at-preserved : goal.loop-at-preserved
loop-at-preserved c = λ networks atoms later words are together nodes grown.
    let prospects = c.args.prospects.now in
    let needs = prospects.needs in
    let at = c.loop-at.at in
    let id = get_or c.nodes-ids.result.now at 0 in
    let numbered = c.args.network.now in
    let n = network_of (children networks) numbered in
    let node = c.index-nodes-id.result in
    let count = ap length c.nodes-ids.ensures in
    let test = c.loop-at-test.true in
    let low : at < length numbered.nodes = omega (arith, count, test) in
    let here : id ≡ get_or numbered.nodes at 0 = ap (λ (l : List ℕ). get_or l at 0) c.nodes-ids.ensures in
    let known : id < length c.args.nodes.now = subst (λ (k : ℕ). k < length c.args.nodes.now) (sym here) (c.requires.within at 0 low) in
    let right = node_at prospects atoms networks c.args.nodes.now id node known c.index-nodes-id.is nodes in
    let child : child_of n.children at ≡ child_of (children networks) id = child_there networks numbered.nodes at 0 low ∙ ap (child_of (children networks)) (sym here) in
    let wants = subst (λ (x : Child). AreWants needs atoms node.wants.items (wants_by (row_of needs x))) (sym child) right.wants in
    needed_more (state_of later words) (needed_at (outlook_of needs) n) at (all_hold words c.args.found.now) (all_hold words c.loop-at.found) (all_hold words c.push_needed_at.new.found)
    (c.loop-at.invariant networks atoms later words are together nodes grown)
    (c.in_ok-push_needed_at.ensures n atoms later words are together c.order.ensures.value (subst (λ (ws : List Want). AreWants needs atoms ws (wants_by (row_of needs (child_of n.children at)))) (sym c.deref.ensures.value) wants) grown)

pub returns : goal.returns
returns c = λ networks atoms later words are together nodes grown.
    let numbered = c.args.network.now in
    let n = network_of (children networks) numbered in
    let count = ap length c.nodes-ids.ensures in
    let long = length-map numbered.nodes (child_of (children networks)) in
    let all : c.loop-at.at ≡ length n.children = omega (arith, count, long, c.loop-at.auto.at-end, c.loop-at-test.false) in
    c.loop-at.invariant networks atoms later words are together nodes grown
    ∙ ap (λ k. all_hold words c.args.found.now && holds (state_of later words) (flat_map (needed_at (outlook_of c.args.prospects.now.needs) n) (range_with_len 0 k))) all
