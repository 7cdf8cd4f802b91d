use Rattle.std.proofs.Common.{◌≡◌, ◌<◌, suc, length, get_or, ap, ◌∙◌, arith}
use Rattle.std.specs.List.{remove}
use Rattle.htn_ground.specs.Trees.{size_of}
use Rattle.htn_ground.proofs.TreeSizes.{sizes, sizes-remove, size-Compound}
use Rattle.htn_ground.proofs.node.Node.take_before_last.Goals as goal

pub returns-in-Some-clause-within : goal.returns-in-Some-clause-within
returns-in-Some-clause-within c =
    let children = c.in-Compound.children in
    let before = c.in-Some.before in
    let child = c.remove-child.result in
    let inside : before < length children.items = omega (arith, c.in-Some.ensures, c.len.ensures) in
    let whole : size_of c.args.self ≡ suc (sizes children.items) = ap size_of c.in-Compound.is ∙ size-Compound c.in-Compound.task c.in-Compound.instance children in
    let rest = size-Compound c.in-Compound.task c.in-Compound.instance c.remove-child.new.self in
    let taken : size_of child ≡ size_of (get_or children.items before child) = ap size_of c.remove-child.ensures.value in
    let left : sizes c.remove-child.new.self.items ≡ sizes (remove children.items before) = ap sizes c.remove-child.ensures.items in
    let moved = sizes-remove children.items before child inside in
    omega arith
