use Rattle.std.proofs.Common.{◌≡◌, ◌++◌, List, [], ℕ, codes, option_map, ap, ap₂, ◌∙◌}
use Rattle.std.specs.List.{flat_map}
use Rattle.plan_picture.specs.Seen.{seen_all}
use Rattle.picture_text.proofs.Writes.{adds}
use Rattle.picture_svg.specs.Grid.{rows_of}
use Rattle.picture_svg.specs.Shapes.{path}
use Rattle.picture_svg.specs.Svg.{head, problem, nodes}
use Rattle.picture_svg.proofs.as_svg.laid_out.Goals as goal

pub returns : goal.returns
returns c =
    let caption = c.args.caption.now in
    let details = option_map (λ d. d.now) c.args.details in
    let picture = c.args.picture.now in
    let layout = c.args.layout.now in
    let file = picture.file.now in
    let o : List ℕ = [] in
    let top = head caption layout in
    let edges = flat_map path layout.edges.items in
    let title = problem caption layout.problem in
    let all = nodes caption.mark details file (rows_of picture) layout.boxes.items in
    let end = codes "</svg>\n" in
    let n1 = c.say_head.new.out.items in
    let n2 = c.say_edges.new.out.items in
    let n3 = c.say_problem.new.out.items in
    let n4 = c.say_nodes.new.out.items in
    let m = c.extend_from_slice.new.self.items in
    let one : n1 ≡ o ++ top = c.in_ok-say_head.ensures ∙ ap (λ l. l ++ top) c.new-out.ensures.items in
    let two = c.in_ok-say_edges.ensures ∙ ap (λ es. n1 ++ flat_map path es) c.as_slice.ensures.value in
    let four = c.in_ok-say_nodes.ensures ∙ ap₂ (λ rs bs. n3 ++ nodes caption.mark details file (seen_all rs) bs) c.as_slice-rows.ensures.value c.as_slice-boxes.ensures.value in
    adds o n1 m top (edges ++ (title ++ (all ++ end))) one
    (adds n1 n2 m edges (title ++ (all ++ end)) two (adds n2 n3 m title (all ++ end) c.in_ok-say_problem.ensures (adds n3 n4 m all end four c.in_ok-extend_from_slice.ensures.items)))
