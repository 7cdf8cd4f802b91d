use Rattle.std.proofs.Common.{◌<◌, ◌≤◌, ◌+◌, ◌-◌, [], cond, length, get_or, take, None, sym, ap, subst, ◌∙◌}
use Rattle.std.proofs.lemmas.Bool.{lt-ltb}
use Rattle.std.proofs.lemmas.List.{take_more, take_all}
use Rattle.plan_text.proofs.Adding.{get_in}
use Rattle.plan_text.specs.Forest.{lists_of}
use Rattle.plan_text.specs.Reached.{children_at}
use Rattle.plan_picture.specs.Below.{IsLeast, IsFirstAction}
use Rattle.plan_picture.specs.Firsts.{earlier}
use Rattle.plan_picture.proofs.Earliest.{IsBelowOne, below_none, below_more, first_of_children, first_of_action}
use Rattle.plan_picture.proofs.firsts.first_of.Goals as goal

pub loop-child-init : goal.loop-child-init
loop-child-init c = below_none c.args.actions (children_at c.args.actions (lists_of c.args.children.now))

pub loop-child-preserved : goal.loop-child-preserved
loop-child-preserved c =
    let actions = c.args.actions in
    let below = children_at actions (lists_of c.args.children.now) in
    let all = below c.args.line in
    let firsts = c.args.firsts.now in
    let i = c.loop-child.child-index in
    let same = c.children_at-child-items.ensures in
    let low : i < length all = subst (λ xs. i < length xs) same c.loop-child-test.true in
    let kid = get_or all i 0 in
    let is = c.first_at.ensures ∙ ap (λ xs. get_or firsts (get_or xs i 0) None) same in
    let found = subst (IsFirstAction actions below kid) (sym is) (c.requires kid (get_in all i 0 low)) in
    subst (IsLeast (IsBelowOne actions below (take (i + 1) all))) (sym c.earlier-first.ensures)
    (subst (λ ls. IsLeast (IsBelowOne actions below ls) (earlier c.loop-child.first c.first_at.result)) (sym (take_more all i 0 low))
    (below_more actions below (take i all) kid c.loop-child.first c.first_at.result c.loop-child.invariant found))

pub returns-then-line-actions : goal.returns-then-line-actions
returns-then-line-actions c =
    let actions = c.args.actions in
    let line = c.args.line in
    let lists = lists_of c.args.children.now in
    first_of_action actions (children_at actions lists) line c.if-line-actions.true (ap (λ b. cond b [] (get_or lists (line - actions) [])) (lt-ltb line actions c.if-line-actions.true))

pub returns : goal.returns
returns c =
    let actions = c.args.actions in
    let below = children_at actions (lists_of c.args.children.now) in
    let line = c.args.line in
    let i = c.loop-child.child-index in
    let past : length (below line) ≤ i = subst (λ xs. length xs ≤ i) c.children_at-child-items.ensures c.loop-child-test.false in
    first_of_children actions below line c.loop-child.first c.if-line-actions.false
    (subst (λ ls. IsLeast (IsBelowOne actions below ls) c.loop-child.first) (take_all i (below line) past) c.loop-child.invariant)
