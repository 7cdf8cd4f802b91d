use Rattle.std.proofs.Common.{◌≡◌, ◌+◌, ◌++◌, [], length, reverse, None, sym, ap, subst, ◌∙◌, arith}
use Rattle.std.proofs.lemmas.List.{length-map, length_push}
use Rattle.plan_text.specs.Forest.{lists_of}
use Rattle.plan_text.specs.Reached.{children_at}
use Rattle.plan_picture.specs.Rows.{root_rows, rows_within, child_rows}
use Rattle.plan_picture.specs.Seen.{seen, seen_all}
use Rattle.plan_picture.proofs.Waiting.{IsWalk, begun, one_more, more_to_come, is_low}
use Rattle.plan_picture.proofs.Pushed.{one_row}
use Rattle.plan_picture.proofs.walk.rows_of.Goals as goal

pub loop-row-init : goal.loop-row-init
loop-row-init c =
    let below = children_at c.args.actions (lists_of c.args.children.now) in
    let roots = c.args.roots.now in
    let all = rows_within below (length c.args.children.now + 1) (root_rows roots) in
    let start : seen_all c.push_siblings.new.waiting.items ≡ reverse (root_rows roots) =
    c.in_ok-push_siblings.ensures ∙ ap (λ ws. seen_all ws ++ reverse (root_rows roots)) c.new-waiting.ensures.items in
    subst (λ ws. IsWalk below ws (seen_all c.new-rows.result.items) all) (sym start)
    (subst (λ rs. IsWalk below (reverse (root_rows roots)) (seen_all rs) all) (sym c.new-rows.ensures.items) (begun below None [] roots all c.requires))

pub push_children-requires : goal.push_children-requires
push_children-requires c =
    let below = children_at c.args.actions (lists_of c.args.children.now) in
    let all = rows_within below (length c.args.children.now + 1) (root_rows c.args.roots.now) in
    let waiting = c.pop.new.self.items in
    let row = c.in-Some.row in
    let rows = c.loop-row.rows in
    let whole = ap seen_all c.in-Some.ensures.items ∙ one_row waiting row in
    let walk = subst (λ ws. IsWalk below ws (seen_all rows.items) all) whole c.loop-row.invariant in
    let low = is_low below (seen_all waiting) (seen_all rows.items) all (seen row) walk in
    let seen_long = length-map rows.items seen in
    let long = rows.ok.0 in
    let room = rows.ok.1 in
    let small = rows.small in
    omega arith

pub loop-row-smaller : goal.loop-row-smaller
loop-row-smaller c =
    let below = children_at c.args.actions (lists_of c.args.children.now) in
    let all = rows_within below (length c.args.children.now + 1) (root_rows c.args.roots.now) in
    let waiting = c.pop.new.self.items in
    let row = c.in-Some.row in
    let rows = c.loop-row.rows.items in
    let whole = ap seen_all c.in-Some.ensures.items ∙ one_row waiting row in
    let walk = subst (λ ws. IsWalk below ws (seen_all rows) all) whole c.loop-row.invariant in
    let more = more_to_come below (seen_all waiting) (seen_all rows) all (seen row) walk in
    let seen_long = length-map rows seen in
    let pushed = ap length c.in_ok-push.ensures.items ∙ length_push rows row in
    omega arith

pub loop-row-preserved : goal.loop-row-preserved
loop-row-preserved c =
    let below = children_at c.args.actions (lists_of c.args.children.now) in
    let all = rows_within below (length c.args.children.now + 1) (root_rows c.args.roots.now) in
    let waiting = c.pop.new.self.items in
    let row = c.in-Some.row in
    let rows = c.loop-row.rows.items in
    let whole = ap seen_all c.in-Some.ensures.items ∙ one_row waiting row in
    let walk = subst (λ ws. IsWalk below ws (seen_all rows) all) whole c.loop-row.invariant in
    let next = one_more below (seen_all waiting) (seen_all rows) all (seen row) walk in
    let more = ap seen_all c.in_ok-push.ensures.items ∙ one_row rows row in
    subst (λ ws. IsWalk below ws (seen_all c.push.new.self.items) all) (sym c.in_ok-push_children.ensures)
    (subst (λ rs. IsWalk below (seen_all waiting ++ reverse (child_rows below (seen row))) rs all) (sym more) next)
