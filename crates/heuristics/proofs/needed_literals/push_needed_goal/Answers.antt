use Rattle.std.proofs.Common.{◌∙◌, ◌&&◌, ◌<◌, Bool, List, filter, get_or, length, not, ap, arith}
use Rattle.std.specs.List.{list_any}
use Rattle.std.proofs.lemmas.List.{take_all}
use Rattle.htn_model.specs.Literal.{Literal, holds}
use Rattle.htn_model.specs.Problem.{Network}
use Rattle.heuristics.specs.Places.{has_given}
use Rattle.heuristics.specs.Rows.{outlook_of}
use Rattle.heuristics.specs.declared.needs.Needs.{Needs}
use Rattle.state_table.specs.Compiled.{all_hold, is_met}
use Rattle.state_table.specs.Table.{state_of}
use Rattle.heuristics.proofs.NeededLists.{kept_more, nothing_kept, some_literal}
use Rattle.heuristics.proofs.NotedNeeds.{some_want, want_met, want_number, wants_count}
use Rattle.heuristics.proofs.needed_literals.push_needed_goal.Goals as goal

-- whether no node gives a literal
abbrev test_of : Needs → Network → Literal → Bool
test_of n network l = not (list_any (λ x. (outlook_of n).gives x l) network.children)

pub loop-want-init : goal.loop-want-init
loop-want-init c = λ needs n literals atoms later words together wants grown. nothing_kept (state_of later words) (test_of needs n) literals (all_hold words c.args.found.now)

pub loop-want-preserved : goal.loop-want-preserved
loop-want-preserved c = λ needs n literals atoms later words together wants grown.
    let ws = c.args.goals.now in
    let i = c.loop-want.want-index in
    let w = get_or ws i some_want in
    let count = wants_count needs atoms ws literals wants in
    let low : i < length literals = omega (arith, count, c.loop-want-test.true) in
    let number = want_number needs atoms ws literals wants i some_want some_literal c.loop-want-test.true in
    let met = want_met needs atoms ws literals wants i some_want some_literal c.loop-want-test.true later grown words in
    kept_more (state_of later words) (test_of needs n) literals i some_literal (all_hold words c.args.found.now) (all_hold words c.loop-want.found) (all_hold words c.push_if.new.found)
    (not c.has-is_kept.result) (is_met words w.literal) low
    (ap not (c.has-is_kept.ensures ∙ ap (has_given c.args.given.now) number ∙ together (get_or literals i some_literal)))
    met (c.loop-want.invariant needs n literals atoms later words together wants grown) (c.in_ok-push_if.ensures words)

pub returns : goal.returns
returns c = λ needs n literals atoms later words together wants grown.
    let count = wants_count needs atoms c.args.goals.now literals wants in
    c.loop-want.invariant needs n literals atoms later words together wants grown
    ∙ ap (λ (k : List Literal). all_hold words c.args.found.now && holds (state_of later words) (filter (test_of needs n) k))
    (take_all c.loop-want.want-index literals (omega (arith, count, c.loop-want-test.false)))
