use Rattle.std.proofs.Common.{◌≡◌, ◌<◌, suc, length, get_or, set, ap, ◌∙◌, arith}
use Rattle.std.specs.List.{remove}
use Rattle.htn_ground.specs.Trees.{size_of, size_of_any}
use Rattle.htn_ground.proofs.TreeSizes.{sizes, sizes-at, sizes-remove, sizes-set, size-Compound}
use Rattle.htn_ground.proofs.node.Node.exchange_last.Goals as goal
use Rattle.htn_ground.proofs.node.Node.exchange_last.Goals.{in-Some-other, in-None}

pub returns-after-other-clause-child : goal.returns-after-other-clause-child
returns-after-other-clause-child c =
    let children = c.in-Compound.children in
    let last = c.in-Some.last in
    let inside : last < length children.items = omega (arith, c.in-Some.ensures, c.len.ensures) in
    let whole : size_of c.args.self ≡ suc (sizes children.items) = ap size_of c.in-Compound.is ∙ size-Compound c.in-Compound.task c.in-Compound.instance children in
    elim c.match-other.branch [
      | in-Some-other w ↦ (
          let old = w.index_mut.result.now in
          let taken : size_of c.match-other.child ≡ size_of (get_or children.items last old) = ap size_of (w.child-is ∙ w.replace-child.ensures.value ∙ w.index_mut.ensures.value) in
          let all = sizes-at children.items last old inside in
          omega arith
          )
      | in-None w ↦ (
          let old = w.remove-child.result in
          let taken : size_of c.match-other.child ≡ size_of (get_or children.items last old) = ap size_of (w.child-is ∙ w.remove-child.ensures.value) in
          let all = sizes-at children.items last old inside in
          omega arith
          )
    ]

pub returns-after-other-clause-rest : goal.returns-after-other-clause-rest
returns-after-other-clause-rest c =
    let children = c.in-Compound.children in
    let last = c.in-Some.last in
    let inside : last < length children.items = omega (arith, c.in-Some.ensures, c.len.ensures) in
    let whole : size_of c.args.self ≡ suc (sizes children.items) = ap size_of c.in-Compound.is ∙ size-Compound c.in-Compound.task c.in-Compound.instance children in
    let rest = size-Compound c.in-Compound.task c.in-Compound.instance c.match-other.children in
    elim c.match-other.branch [
      | in-Some-other w ↦ (
          let old = w.index_mut.result.now in
          let taken : size_of c.match-other.child ≡ size_of (get_or children.items last old) = ap size_of (w.child-is ∙ w.replace-child.ensures.value ∙ w.index_mut.ensures.value) in
          let left : sizes c.match-other.children.items ≡ sizes (set children.items last w.in-Some-other.node) =
          ap (λ v. sizes v.items) w.children-is ∙ ap (λ n. sizes (set children.items last n)) w.replace-child.ensures.after in
          let other : size_of_any c.args.other ≡ size_of w.in-Some-other.node = ap size_of_any w.in-Some-other.is in
          let moved = sizes-set children.items last old w.in-Some-other.node inside in
          omega arith
          )
      | in-None w ↦ (
          let old = w.remove-child.result in
          let taken : size_of c.match-other.child ≡ size_of (get_or children.items last old) = ap size_of (w.child-is ∙ w.remove-child.ensures.value) in
          let left : sizes c.match-other.children.items ≡ sizes (remove children.items last) = ap (λ v. sizes v.items) w.children-is ∙ ap sizes w.remove-child.ensures.items in
          let other : size_of_any c.args.other ≡ 0 = ap size_of_any w.in-None.is in
          let moved = sizes-remove children.items last old inside in
          omega arith
          )
    ]
