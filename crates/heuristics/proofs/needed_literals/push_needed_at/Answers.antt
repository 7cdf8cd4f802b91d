use Rattle.std.proofs.Common.{◌∙◌, ◌&&◌, ◌<◌, List, filter, get_or, length, ap, arith}
use Rattle.std.proofs.lemmas.List.{take_all}
use Rattle.htn_model.specs.Choice.{child_of}
use Rattle.htn_model.specs.Literal.{Literal, holds}
use Rattle.heuristics.specs.Needs.{is_ungiven}
use Rattle.heuristics.specs.Rows.{outlook_of, row_of, wants_by}
use Rattle.state_table.specs.Compiled.{all_hold, is_met}
use Rattle.state_table.specs.Table.{state_of}
use Rattle.heuristics.proofs.NeededLists.{kept_more, nothing_kept, some_literal}
use Rattle.heuristics.proofs.NotedNeeds.{some_want, want_met, want_number, wants_count}
use Rattle.heuristics.proofs.needed_literals.push_needed_at.Goals as goal

pub loop-want-init : goal.loop-want-init
loop-want-init c = λ n atoms later words are together order wants grown.
    nothing_kept (state_of later words) (is_ungiven (outlook_of c.args.needs.now) n c.args.at) (wants_by (row_of c.args.needs.now (child_of n.children c.args.at))) (all_hold words c.args.found.now)

pub loop-want-preserved : goal.loop-want-preserved
loop-want-preserved c = λ n atoms later words are together order wants grown.
    let needs = c.args.needs.now in
    let ws = c.args.wants.now in
    let i = c.loop-want.want-index in
    let w = get_or ws i some_want in
    let ls = wants_by (row_of needs (child_of n.children c.args.at)) in
    let count = wants_count needs atoms ws ls wants in
    let low : i < length ls = omega (arith, count, c.loop-want-test.true) in
    let l = get_or ls i some_literal in
    let number = want_number needs atoms ws ls wants i some_want some_literal c.loop-want-test.true in
    let met = want_met needs atoms ws ls wants i some_want some_literal c.loop-want-test.true later grown words in
    kept_more (state_of later words) (is_ungiven (outlook_of needs) n c.args.at) ls i some_literal (all_hold words c.args.found.now) (all_hold words c.loop-want.found) (all_hold words c.push_if.new.found)
    c.is_ungiven_at-is_kept.result (is_met words w.literal) low
    (c.is_ungiven_at-is_kept.ensures n l are together order number) met (c.loop-want.invariant n atoms later words are together order wants grown) (c.in_ok-push_if.ensures words)

pub returns : goal.returns
returns c = λ n atoms later words are together order wants grown.
    let needs = c.args.needs.now in
    let ls = wants_by (row_of needs (child_of n.children c.args.at)) in
    let count = wants_count needs atoms c.args.wants.now ls wants in
    c.loop-want.invariant n atoms later words are together order wants grown
    ∙ ap (λ (k : List Literal). all_hold words c.args.found.now && holds (state_of later words) (filter (is_ungiven (outlook_of needs) n c.args.at) k))
    (take_all c.loop-want.want-index ls (omega (arith, count, c.loop-want-test.false)))
