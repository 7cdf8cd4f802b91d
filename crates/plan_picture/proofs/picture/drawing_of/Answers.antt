use Rattle.std.proofs.Common.{ℕ, length, get_or, None, refl, sym, ap, ◌∙◌}
use Rattle.htn_model.specs.PlanFile.{defined_ids}
use Rattle.plan_text.specs.Forest.{lists_of}
use Rattle.plan_text.proofs.Listed.{as_many_lists}
use Rattle.plan_picture.specs.Seen.{seen_all}
use Rattle.plan_picture.proofs.Drawing.{listed_ready, first_rows, after_ready, lines_ready, found_ready, drawn_ready, second_rows, is_drawing, drawn_at, all_drawn_at}
use Rattle.plan_picture.proofs.picture.drawing_of.Goals as goal

pub listed_children-requires : goal.listed_children-requires
listed_children-requires c =
    let file = c.args.file.now in
    as_many_lists (defined_ids file) c.args.forest.now.children file.decompositions c.requires.children ∙ ap length (sym c.decompositions-decompositions.ensures.value)

pub rows_of-requires : goal.rows_of-requires
rows_of-requires c =
    listed_ready c.args.file.now c.args.forest.now c.requires (length c.actions-actions.result.now) c.roots.result.now c.as_slice.result.now (ap length c.actions-actions.ensures.value) c.roots.ensures
    (ap lists_of c.as_slice.ensures.value ∙ c.in_ok-listed.ensures)

pub firsts_of-requires-clause-after : goal.firsts_of-requires-clause-after
firsts_of-requires-clause-after c =
    let file = c.args.file.now in
    let forest = c.args.forest.now in
    let n = length c.actions-actions.result.now in
    let count = ap length c.actions-actions.ensures.value in
    let before = seen_all c.in_ok-before.before.items in
    let rows =
    first_rows file forest c.requires n c.roots.result.now c.as_slice.result.now before count c.roots.ensures (ap lists_of c.as_slice.ensures.value ∙ c.in_ok-listed.ensures) c.in_ok-before.ensures in
    after_ready file forest c.requires n c.as_slice-2.result.now before (seen_all c.as_slice-3.result.now) count (ap lists_of c.as_slice-2.ensures.value ∙ c.in_ok-listed.ensures)
    (ap seen_all c.as_slice-3.ensures.value) rows

pub firsts_of-requires-clause-within : goal.firsts_of-requires-clause-within
firsts_of-requires-clause-within c =
    let file = c.args.file.now in
    let forest = c.args.forest.now in
    let n = length c.actions-actions.result.now in
    let count = ap length c.actions-actions.ensures.value in
    let before = seen_all c.in_ok-before.before.items in
    let rows =
    first_rows file forest c.requires n c.roots.result.now c.as_slice.result.now before count c.roots.ensures (ap lists_of c.as_slice.ensures.value ∙ c.in_ok-listed.ensures) c.in_ok-before.ensures in
    lines_ready file forest c.requires n (length c.decompositions-decompositions.result.now) before (seen_all c.as_slice-3.result.now) count (ap length c.decompositions-decompositions.ensures.value)
    (ap seen_all c.as_slice-3.ensures.value) rows

pub rows_of-requires-2 : goal.rows_of-requires-2
rows_of-requires-2 c =
    let forest = c.args.forest.now in
    let firsts = c.in_ok-firsts.firsts.items in
    let roots = c.as_slice-7.result.now in
    let children = c.as_slice-8.result.now in
    let roots_are =
    drawn_at c.as_slice-4.result.now firsts c.roots-2.result.now forest.roots c.in_ok-roots.roots.items roots c.as_slice-4.ensures.value c.roots-2.ensures (sym c.as_slice-7.ensures.value) c.in_ok-roots.ensures in
    let are =
    all_drawn_at c.as_slice-5.result.now firsts (lists_of c.as_slice-6.result.now) forest.children (lists_of c.in_ok-children.children.items) (lists_of children) c.as_slice-5.ensures.value
    (ap lists_of c.as_slice-6.ensures.value ∙ c.in_ok-listed.ensures) (ap lists_of (sym c.as_slice-8.ensures.value)) c.in_ok-children.ensures in
    drawn_ready c.args.file.now forest c.requires (length c.actions-actions.result.now) roots children (λ line. get_or firsts line None) (ap length c.actions-actions.ensures.value) roots_are are

pub returns : goal.returns
returns c =
    let file = c.args.file.now in
    let forest = c.args.forest.now in
    let n = length c.actions-actions.result.now in
    let count = ap length c.actions-actions.ensures.value in
    let before = seen_all c.in_ok-before.before.items in
    let firsts = c.in_ok-firsts.firsts.items in
    let first = λ (line : ℕ). get_or firsts line None in
    let roots = c.in_ok-roots.roots.items in
    let children = c.in_ok-children.children.items in
    let rows = seen_all c.in_ok-rows.rows.items in
    let earlier =
    first_rows file forest c.requires n c.roots.result.now c.as_slice.result.now before count c.roots.ensures (ap lists_of c.as_slice.ensures.value ∙ c.in_ok-listed.ensures) c.in_ok-before.ensures in
    let found =
    found_ready file forest c.requires n c.as_slice-2.result.now before (seen_all c.as_slice-3.result.now) first count (ap lists_of c.as_slice-2.ensures.value ∙ c.in_ok-listed.ensures)
    (ap seen_all c.as_slice-3.ensures.value) c.in_ok-firsts.ensures in
    let roots_are =
    drawn_at c.as_slice-4.result.now firsts c.roots-2.result.now forest.roots roots roots c.as_slice-4.ensures.value c.roots-2.ensures refl c.in_ok-roots.ensures in
    let are =
    all_drawn_at c.as_slice-5.result.now firsts (lists_of c.as_slice-6.result.now) forest.children (lists_of children) (lists_of children) c.as_slice-5.ensures.value
    (ap lists_of c.as_slice-6.ensures.value ∙ c.in_ok-listed.ensures) refl c.in_ok-children.ensures in
    let roots_seen =
    drawn_at firsts firsts forest.roots forest.roots roots c.as_slice-7.result.now refl refl (sym c.as_slice-7.ensures.value) roots_are in
    let children_seen =
    all_drawn_at firsts firsts forest.children forest.children (lists_of children) (lists_of c.as_slice-8.result.now) refl refl (ap lists_of (sym c.as_slice-8.ensures.value)) are in
    let ready = drawn_ready file forest c.requires n c.as_slice-7.result.now c.as_slice-8.result.now first count roots_seen children_seen in
    let preorder =
    second_rows file forest c.requires n c.as_slice-7.result.now roots c.as_slice-8.result.now children rows count c.as_slice-7.ensures.value c.as_slice-8.ensures.value c.in_ok-rows.ensures ready in
    record {
      file_is = refl;
      drawing = is_drawing file forest c.requires roots (lists_of children) before rows first earlier found roots_are are preorder;
    }
