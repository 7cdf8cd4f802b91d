use Rattle.std.proofs.Common.{◌∙◌, ◌∷◌, [], ◌<◌, All, List, ℕ, ap, arith, get_or, length, length-append, map, subst, sym}
use Rattle.std.proofs.lemmas.List.{take_all}
use Rattle.htn_model.specs.Choice.{child_of}
use Rattle.heuristics.specs.Places.{row_at}
use Rattle.heuristics.specs.Rows.{blocks, row_of}
use Rattle.heuristics.specs.declared.places.Place.{Place}
use Rattle.network_table.specs.Networks.{children}
use Rattle.heuristics.proofs.StoredNeeds.{places_more}
use Rattle.heuristics.proofs.NotedNeeds.{node_at}
use Rattle.heuristics.proofs.node.places_of.Goals as goal

-- each number is that of a node of which it is known
pub bounds-nodes-id : goal.bounds-nodes-id
bounds-nodes-id c =
    subst (λ (l : List ℕ). All (λ id. id < length c.args.nodes.now) l) (sym c.nodes-ids.ensures) c.requires c.loop-id.id-index 0 c.loop-id-test.true

pub loop-id-preserved : goal.loop-id-preserved
loop-id-preserved c =
    let k = c.loop-id.id-index in
    let ids = c.nodes-ids.result.now in
    let old = c.loop-id.places.items in
    let new = c.push.new.self.items in
    let nodes = c.args.nodes.now in
    let node = c.index-nodes-id.result in
    let p = node.place in
    let within = subst (λ (l : List ℕ). All (λ id. id < length nodes) l) (sym c.nodes-ids.ensures) c.requires in
    let low = within k 0 c.loop-id-test.true in
    record {
      count = (let long = length-append old (p ∷ []) in let is = ap length c.in_ok-push.ensures.items in let before = c.loop-id.invariant.count in omega (arith, long, is, before));
      rows = λ known atoms networks are.
          places_more (λ (q : Place). row_at known.needs q.spot) (row_of known.needs) (child_of (children networks)) old new p ids k 0 c.loop-id-test.true c.in_ok-push.ensures.items
          (node_at known atoms networks nodes (get_or ids k 0) node low c.index-nodes-id.is are).row (c.loop-id.invariant.rows known atoms networks are);
      blocked = λ known atoms networks are.
          places_more (λ (q : Place). q.is_blocked) (blocks known.needs) (child_of (children networks)) old new p ids k 0 c.loop-id-test.true c.in_ok-push.ensures.items
          (node_at known atoms networks nodes (get_or ids k 0) node low c.index-nodes-id.is are).blocked (c.loop-id.invariant.blocked known atoms networks are);
    }

pub returns-clause-len : goal.returns-clause-len
returns-clause-len c = let same = ap length c.nodes-ids.ensures in omega (arith, same, c.loop-id.invariant.count, c.loop-id.auto.id-index-end, c.loop-id-test.false)

pub returns-clause-places : goal.returns-clause-places
returns-clause-places c = λ known atoms networks are.
    let node = child_of (children networks) in
    let ids = c.nodes-ids.result.now in
    let all = take_all c.loop-id.id-index ids c.loop-id-test.false ∙ c.nodes-ids.ensures in
    record {
      rows = c.loop-id.invariant.rows known atoms networks are ∙ ap (λ (l : List ℕ). map (row_of known.needs) (map node l)) all;
      blocked = c.loop-id.invariant.blocked known atoms networks are ∙ ap (λ (l : List ℕ). map (blocks known.needs) (map node l)) all;
    }
