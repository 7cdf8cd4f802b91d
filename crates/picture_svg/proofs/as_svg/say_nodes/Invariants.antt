use Rattle.std.proofs.Common.{◌≡◌, ◌++◌, option_map, drop}
use Rattle.plan_picture.specs.Seen.{seen_all}
use Rattle.picture_svg.specs.Svg as spec
use Rattle.picture_svg.proofs.as_svg.say_nodes.Given as goal

-- the nodes so far, and those of the rows that are left
abbrev pub invariant-loop-place : goal.invariant-loop-place
invariant-loop-place l =
    let details = option_map (λ d. d.now) l.details in
    l.out.items ++ spec.nodes l.caption.mark details l.file (drop l.place (seen_all l.rows)) (drop l.place l.boxes)
    ≡ l.initial.out.items ++ spec.nodes l.caption.mark details l.file (seen_all l.rows) l.boxes
