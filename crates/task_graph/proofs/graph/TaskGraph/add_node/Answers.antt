use Rattle.std.proofs.Common.{◌≡◌, ◌∙◌, ◌∷◌, ◌++◌, ◌^◌, [], Some, true, false, not, nat_lt, refl, sym, ap, subst, arith}
use Rattle.std.specs.List.{list_any, position, position_or_len}
use Rattle.std.specs.Ordering.{on}
use Rattle.std.proofs.lemmas.Bool.{lt-ltb}
use Rattle.indexmap.specs.IndexSet.{IndexSet, insert_key}
use Rattle.htn_ground.specs.Views.{child_view, children_of}
use Rattle.htn_ground.specs.declared.child.Child.{Child as Node}
use Rattle.htn_model.specs.Equality.{child_eq-decides}
use Rattle.htn_model.specs.Problem.{child_eq}
use Rattle.task_graph.specs.Graph.{id_of}
use Rattle.task_graph.specs.Growth.{HasNodes}
use Rattle.task_graph.specs.declared.graph.TaskGraph.{TaskGraph}
use Rattle.task_graph.specs.declared.grounding.Grounding.{Grounding}
use Rattle.task_graph.proofs.Growing.{added_new, added_same}
use Rattle.task_graph.proofs.Ids.{place_id, position-map, put_place}
use Rattle.task_graph.proofs.graph.TaskGraph.add_node.Goals as goal
use Rattle.task_graph.proofs.graph.TaskGraph.add_node.Goals.{then-is_new+in_ok-of+in_ok-push, else-is_new}

pub returns-clause-nodes : goal.returns-clause-nodes
returns-clause-nodes c =
    let t = c.args.task.now in
    let a = c.args.self.now in
    let node = c.args.node.now in
    let keys : c.insert_full.new.self.keys ≡ insert_key (on child_view child_eq) a.nodes.keys node = c.in_ok-place.ensures.keys ∙ ap (insert_key (on child_view child_eq) a.nodes.keys) c.in_ok-clone.ensures.cases in
    let new : c.in_ok-place.is_new ≡ not (list_any (on child_view child_eq node) a.nodes.keys) = c.in_ok-place.ensures.added ∙ ap (λ v. not (list_any (on child_view child_eq v) a.nodes.keys)) c.in_ok-clone.ensures.cases in
    elim c.if-is_new.branch [
      | then-is_new+in_ok-of+in_ok-push w ↦
          subst (HasNodes t a) (sym w.self-is)
          (added_new t a (record a { nodes = c.insert_full.new.self; groundings = w.push.new.self }) node c.requires keys (sym new ∙ w.if-is_new.true)
          (w.in_ok-push.ensures.items ∙ ap (λ (x : Grounding). a.groundings.items ++ x ∷ []) w.in_ok-of.ensures) refl refl refl)
      | else-is_new w ↦
          subst (HasNodes t a) (sym w.self-is) (added_same t a (record a { nodes = c.insert_full.new.self }) node c.requires keys (sym new ∙ w.if-is_new.false) refl refl refl refl)
    ]

pub returns-clause-id : goal.returns-clause-id
returns-clause-id c =
    let node = c.args.node.now in
    let nodes : c.if-is_new.self.nodes.keys ≡ c.insert_full.new.self.keys = elim c.if-is_new.branch [
      | then-is_new+in_ok-of+in_ok-push w ↦ ap (λ (g : TaskGraph). g.nodes.keys) w.self-is
      | else-is_new w ↦ ap (λ (g : TaskGraph). g.nodes.keys) w.self-is
    ] in
    let a = c.args.self.now in
    let same = on child_view child_eq in
    let keys : c.insert_full.new.self.keys ≡ insert_key same a.nodes.keys node = c.in_ok-place.ensures.keys ∙ ap (insert_key same a.nodes.keys) c.in_ok-clone.ensures.cases in
    let first : c.in_ok-place.place ≡ position_or_len (same node) a.nodes.keys = c.in_ok-place.ensures.index ∙ ap (λ v. position_or_len (same v) a.nodes.keys) c.in_ok-clone.ensures.cases in
    let own : same node node ≡ true = (child_eq-decides (child_view node) (child_view node)).1 refl in
    let place : position (same node) c.insert_full.new.self.keys ≡ Some c.in_ok-place.place =
    ap (position (same node)) keys ∙ put_place same node a.nodes.keys own ∙ ap Some (sym first) in
    let low : nat_lt c.in-Ok.index (2 ^ 32) ≡ true = lt-ltb c.in-Ok.index (2 ^ 32) (omega (arith, c.in-Ok.ensures)) in
    ap (λ ks. id_of (children_of ks) (child_view node)) nodes
    ∙ place_id (position (child_eq (child_view node)) (children_of c.insert_full.new.self.keys)) c.in-Ok.index
    (sym (position-map (child_eq (child_view node)) child_view c.insert_full.new.self.keys) ∙ place ∙ ap Some (sym c.in-Ok.ensures.1)) low
