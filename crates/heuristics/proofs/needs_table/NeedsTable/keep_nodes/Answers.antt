use Rattle.std.proofs.Common.{◌≡◌, ◌∙◌, ◌∷◌, [], ◌<◌, ℕ, List, length, length-append, ap, sym, subst, refl, arith}
use Rattle.std.proofs.lemmas.List.{get_or-map, length-map}
use Rattle.htn_ground.specs.Views.{child_view}
use Rattle.htn_model.specs.Choice.{child_of}
use Rattle.htn_model.specs.Problem.{Child, precondition}
use Rattle.network_table.specs.Networks.{children}
use Rattle.state_table.proofs.States.{later_itself, later_more}
use Rattle.heuristics.specs.StoredNeeds.{IsNode}
use Rattle.heuristics.specs.declared.needs_table.NeedsTable.{NeedsTable}
use Rattle.heuristics.proofs.NotedNeeds.{nodes_push}
use Rattle.heuristics.proofs.needs_table.NeedsTable.keep_nodes.Goals as goal

pub loop-id-init : goal.loop-id-init
loop-id-init c = record {
  later = later_itself c.args.atoms.now c.len-count.ensures.table;
  nodes = c.requires;
  rest = refl;
  count = sym (c.len-first.ensures ∙ c.args.self.now.nodes.ok.0);
}

pub loop-id-preserved : goal.loop-id-preserved
loop-id-preserved c =
    let n = c.args.prospects.now in
    let t = c.args.networks.now in
    let i = c.loop-id.invariant in
    let id = c.loop-id.id in
    let listed = c.children-children.result.now in
    let x = c.index-children-id.result in
    let s = c.loop-id.self in
    let node = c.in_ok-node.node in
    let atoms = c.of.new.atoms in
    let did = c.in_ok-node.ensures in
    let views = sym (length-map listed child_view) ∙ ap length c.children-children.ensures in
    let low : id < length (children t) = omega (arith, c.loop-id-test.true, views) in
    let same : child_view x ≡ child_of (children t) id =
    ap child_view c.index-children-id.is
    ∙ sym (get_or-map child_view listed id x (precondition []) c.loop-id-test.true)
    ∙ ap (λ (l : List Child). child_of l id) c.children-children.ensures in
    let right =
    subst (λ (k : ℕ). IsNode n atoms node (child_of (children t) k)) (sym i.count)
    (subst (λ (y : Child). IsNode n atoms node y) same did.known) in
    let long = length-append s.nodes.items (node ∷ []) in
    let pushed = ap length c.in_ok-push.ensures.items in
    record {
      later = later_more c.args.atoms.now c.loop-id.atoms atoms i.later did.later;
      nodes = nodes_push n c.loop-id.atoms atoms t s.nodes.items _ node did.later (subst (λ k. k < length (children t)) (sym i.count) low) right c.in_ok-push.ensures.items i.nodes;
      rest = ap (λ (u : NeedsTable). record u { nodes = c.push.new.self }) i.rest;
      count = omega (arith, long, pushed, i.count);
    }

pub returns-clause-all : goal.returns-clause-all
returns-clause-all c =
    let views = sym (length-map c.children-children.result.now child_view) ∙ ap length c.children-children.ensures in
    omega (arith, views, c.loop-id.invariant.count, c.loop-id-test.false)
