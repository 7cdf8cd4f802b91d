use Rattle.std.proofs.Common.{◌≡◌, ◌<◌, ◌+◌, ◌-◌, ◌∷◌, length, get_or, drop, None, sym, ap₂, subst, ◌∙◌, arith}
use Rattle.std.proofs.lemmas.List.{drop_more, length-set}
use Rattle.htn_model.specs.PlanFile.{IsIn}
use Rattle.plan_text.proofs.Adding.{get_in}
use Rattle.plan_text.specs.Forest.{lists_of}
use Rattle.plan_text.specs.Reached.{children_at}
use Rattle.plan_picture.specs.Below.{IsFirstAction}
use Rattle.plan_picture.specs.Firsts.{lines_of}
use Rattle.plan_picture.specs.Seen.{seen_all}
use Rattle.plan_picture.proofs.Earliest.{line_at, many_lines, behind, found_more}
use Rattle.plan_picture.proofs.firsts.firsts_of.Goals as goal

pub first_of-first-requires : goal.first_of-first-requires
first_of-first-requires c =
    let actions = c.args.actions in
    let below = children_at actions (lists_of c.args.children.now) in
    let rows = c.args.rows.now in
    let lines = lines_of (seen_all rows) in
    let left = c.loop-left.left in
    let at = left - 1 in
    let long = many_lines rows in
    let test = c.loop-left-test.true in
    let within = c.loop-left.invariant.within in
    let low : at < length rows = omega arith in
    let is = line_at rows at c.index-rows-left.result low in
    let next : at + 1 ≡ left = omega arith in
    λ child i.
    let there : IsIn child (drop (at + 1) lines) = behind below lines at child c.requires.after (omega arith) (subst (λ l. IsIn child (below l)) is i) in
    subst (λ fs. IsFirstAction actions below child (get_or fs child None)) (sym c.as_slice.ensures.value) (c.loop-left.invariant.found child (subst (λ k. IsIn child (drop k lines)) next there))

pub index_mut-requires : goal.index_mut-requires
index_mut-requires c =
    let rows = c.args.rows.now in
    let lines = lines_of (seen_all rows) in
    let at = c.loop-left.left - 1 in
    let long = many_lines rows in
    let test = c.loop-left-test.true in
    let within = c.loop-left.invariant.within in
    let low : at < length rows = omega arith in
    let is = line_at rows at c.index-rows-left.result low in
    let there : at < length lines = omega arith in
    let few = c.requires.within (get_or lines at 0) (get_in lines at 0 there) in
    let size = c.loop-left.invariant.size in
    let all = c.loop-left.firsts.ok.0 in
    omega arith

pub loop-left-preserved : goal.loop-left-preserved
loop-left-preserved c =
    let actions = c.args.actions in
    let below = children_at actions (lists_of c.args.children.now) in
    let rows = c.args.rows.now in
    let lines = lines_of (seen_all rows) in
    let left = c.loop-left.left in
    let at = left - 1 in
    let firsts = c.loop-left.firsts.items in
    let first = c.first_of-first.result in
    let line = (get_or rows at c.index-rows-left.result).line in
    let long = many_lines rows in
    let test = c.loop-left-test.true in
    let within = c.loop-left.invariant.within in
    let low : at < length rows = omega arith in
    let is = line_at rows at c.index-rows-left.result low in
    let there : at < length lines = omega arith in
    let few = c.requires.within (get_or lines at 0) (get_in lines at 0 there) in
    let size = c.loop-left.invariant.size in
    let slot : line < length firsts = omega arith in
    let next : at + 1 ≡ left = omega arith in
    let more : drop at lines ≡ line ∷ drop left lines = drop_more lines at 0 there ∙ ap₂ (λ x k. x ∷ drop k lines) (sym is) next in
    record {
      within = omega arith;
      size = length-set firsts line first ∙ size;
      found = λ l i. found_more actions below firsts line (drop left lines) first slot c.first_of-first.ensures c.loop-left.invariant.found l (subst (IsIn l) more i);
    }

pub returns : goal.returns
returns c = λ line i. c.loop-left.invariant.found line (subst (λ k. IsIn line (drop k (lines_of (seen_all c.args.rows.now)))) (let e : 0 ≡ c.loop-left.left = omega arith in e) i)
