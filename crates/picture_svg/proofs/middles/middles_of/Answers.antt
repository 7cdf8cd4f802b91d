use Rattle.std.proofs.Common.{◌-◌, ◌<◌, ◌≤◌, length, get_or, ap, ap₂, ◌∙◌, arith}
use Rattle.std.proofs.lemmas.List.{length-set}
use Rattle.plan_text.specs.Forest.{lists_of}
use Rattle.plan_text.specs.Reached.{children_at}
use Rattle.picture_svg.specs.Grid.{own_places, middle_of}
use Rattle.picture_svg.proofs.Rows.{row_in, places_less}
use Rattle.picture_svg.proofs.Centring.{centred_more}
use Rattle.picture_svg.proofs.middles.middles_of.Goals as goal

pub overflow_sub-place : goal.overflow_sub-place
overflow_sub-place c =
    let children = children_at c.args.actions (lists_of c.args.children.now) in
    let own = c.own_places-place.ensures ∙ ap own_places c.children_at-below.ensures in
    let all = places_less children c.args.rows.now c.loop-left.left c.index-rows-left.result c.loop-left.place c.own_places-place.result c.loop-left-test.true c.loop-left.invariant.within c.loop-left.invariant.places own in
    omega arith

pub index_mut-requires : goal.index_mut-requires
index_mut-requires c =
    let rows = c.args.rows.now in
    let at = c.loop-left.left - 1 in
    let test = c.loop-left-test.true in
    let within = c.loop-left.invariant.within in
    let low : at < length rows = omega arith in
    let few = c.requires.within (get_or rows at c.index-rows-left.result).line (row_in rows at c.index-rows-left.result low) in
    let size = c.loop-left.invariant.size in
    let all = c.loop-left.middles.ok.0 in
    omega arith

pub loop-left-preserved : goal.loop-left-preserved
loop-left-preserved c =
    let children = children_at c.args.actions (lists_of c.args.children.now) in
    let rows = c.args.rows.now in
    let left = c.loop-left.left in
    let at = left - 1 in
    let d = c.index-rows-left.result in
    let place = c.loop-left.place in
    let own = c.own_places-place.result in
    let line = (get_or rows at d).line in
    let middles = c.loop-left.middles.items in
    let middle = c.in_ok-middle.middle in
    let test = c.loop-left-test.true in
    let within = c.loop-left.invariant.within in
    let low : at < length rows = omega arith in
    let few = c.requires.within line (row_in rows at d low) in
    let size = c.loop-left.invariant.size in
    let slot : line < length middles = omega arith in
    let own_is = c.own_places-place.ensures ∙ ap own_places c.children_at-below.ensures in
    let all = places_less children rows left d place own test within c.loop-left.invariant.places own_is in
    let less : own ≤ place = omega arith in
    let found = c.in_ok-middle.ensures ∙ ap₂ (λ ms cs. middle_of (λ l. get_or ms l 0) (place - own) cs) c.as_slice.ensures.value c.children_at-below.ensures in
    record {
      within = omega arith;
      size = length-set middles line middle ∙ size;
      places = omega arith;
      so_far = centred_more children rows left d middles place own middle test within c.requires.after c.requires.once slot less own_is found c.loop-left.invariant.so_far;
    }
