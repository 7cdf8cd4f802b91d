use Rattle.std.proofs.Common.{◌≡◌, ◌+◌, ◌-◌, ◌++◌, length, take, drop, reverse, ap, ap₂, ◌∙◌, arith}
use Rattle.htn_walk.proofs.Reversed.{row_left, row_taken}
use Rattle.htn_walk.proofs.trail.take_out.Goals as goal

pub returns-clause-taken : goal.returns-clause-taken
returns-clause-taken c =
    let old = c.args.trees.now.items in
    let whole : c.len.result - c.args.position - c.args.count + c.args.count + c.args.position ≡ length old = omega (arith, c.requires, c.len.ensures) in
    c.reverse.ensures.items
    ∙ ap reverse (c.in_ok-earlier.ensures.items ∙ ap (take c.args.count) c.in_ok-row.ensures.tail)
    ∙ row_taken old (c.len.result - c.args.position - c.args.count) c.args.count c.args.position whole

pub returns-clause-left : goal.returns-clause-left
returns-clause-left c =
    let old = c.args.trees.now.items in
    let whole : c.len.result - c.args.position - c.args.count + c.args.count + c.args.position ≡ length old = omega (arith, c.requires, c.len.ensures) in
    ap reverse (c.in_ok-append.ensures.items ∙ ap₂ (λ xs ys. xs ++ ys) c.in_ok-row.ensures.items (c.in_ok-earlier.ensures.tail ∙ ap (drop c.args.count) c.in_ok-row.ensures.tail))
    ∙ row_left old (c.len.result - c.args.position - c.args.count) c.args.count c.args.position whole
