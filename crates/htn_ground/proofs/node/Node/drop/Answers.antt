use Rattle.std.proofs.Common.{◌+◌, ◌*◌, ◌<◌, sym, ap, ◌∙◌, subst}
use Rattle.htn_ground.specs.Trees.{size_of, size_of_any}
use Rattle.htn_ground.proofs.TreeSizes.{some_size, less_left}
use Rattle.htn_ground.proofs.node.Node.drop.Goals as goal

pub loop-child-smaller : goal.loop-child-smaller
loop-child-smaller c =
    let here = size_of c.loop-child.here in
    let child = size_of c.in-Some.child in
    let left = size_of c.in-Some.left in
    let rest = size_of c.in-Err-Some.rest in
    subst (λ above. (child + left) * (child + left) + child < (here + above) * (here + above) + here)
    (ap size_of_any (sym c.in-Err-Some.field-0-is ∙ c.in-Err-Some.ensures.childless))
    (less_left here rest child left (some_size c.loop-child.here) c.in-Some.ensures)
