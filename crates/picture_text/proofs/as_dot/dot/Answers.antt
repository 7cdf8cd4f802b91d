use Rattle.std.proofs.Common.{◌≡◌, ◌++◌, List, [], ℕ, codes, map, ap, ap₂, ◌∙◌}
use Rattle.std.specs.List.{flat_map}
use Rattle.diagnostics.specs.Shown.{shown}
use Rattle.plan_text.specs.Forest.{lists_of}
use Rattle.plan_picture.specs.declared.row.Row.{Row}
use Rattle.picture_text.specs.Dot.{head, node, edge, edges}
use Rattle.picture_text.specs.Lines.{line_at, id_at}
use Rattle.picture_text.proofs.Writes.{adds, five}
use Rattle.picture_text.proofs.as_dot.dot.Goals as goal

pub returns : goal.returns
returns c =
    let caption = c.args.caption.now in
    let picture = c.args.picture.now in
    let file = picture.file.now in
    let o : List ℕ = [] in
    let top = head (map shown caption.problem.now) in
    let node_of = λ (r : Row). node caption.mark r.line (line_at file r.line) in
    let edge_of = λ (root : ℕ). edge (codes "root") (id_at file root) in
    let edges_of = λ (kids : List (List ℕ)) (r : Row). edges file kids r.line in
    let nodes = flat_map node_of picture.rows.items in
    let from_root = flat_map edge_of picture.roots.items in
    let kids = lists_of picture.children.items in
    let below = flat_map (edges_of kids) picture.rows.items in
    let end = codes "}\n" in
    let one : c.say_head.new.out.items ≡ o ++ top = c.in_ok-say_head.ensures ∙ ap (λ l. l ++ top) c.new-out.ensures.items in
    let two = adds o c.say_head.new.out.items c.say_nodes.new.out.items top nodes one (c.in_ok-say_nodes.ensures ∙ ap (λ rs. c.say_head.new.out.items ++ flat_map node_of rs) c.as_slice-rows.ensures.value) in
    let three =
    adds o c.say_nodes.new.out.items c.say_root_edges.new.out.items (top ++ nodes) from_root two
    (c.in_ok-say_root_edges.ensures ∙ ap (λ rs. c.say_nodes.new.out.items ++ flat_map edge_of rs) c.as_slice.ensures.value) in
    let four =
    adds o c.say_root_edges.new.out.items c.say_all_edges.new.out.items (top ++ nodes ++ from_root) below three
    (c.in_ok-say_all_edges.ensures
    ∙ ap₂ (λ ks rs. c.say_root_edges.new.out.items ++ flat_map (edges_of ks) rs) (ap lists_of c.as_slice-2.ensures.value) c.as_slice-rows.ensures.value) in
    adds o c.say_all_edges.new.out.items c.extend_from_slice.new.self.items (top ++ nodes ++ from_root ++ below) end four c.in_ok-extend_from_slice.ensures.items ∙ five top nodes from_root below end
