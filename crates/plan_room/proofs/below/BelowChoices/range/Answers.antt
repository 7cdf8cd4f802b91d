use Rattle.std.proofs.Common.{sym, ◌∙◌, arith}
use Rattle.std.proofs.lemmas.List.{get_or_default}
use Rattle.std.proofs.lemmas.Option.{slice_get_within}
use Rattle.htn_ground.specs.Views.{child_view}
use Rattle.plan_room.proofs.Suited.{looked}
use Rattle.plan_room.proofs.Linked.{child_choice, step_choice}
use Rattle.plan_room.proofs.below.BelowChoices.range.Goals as goal

pub returns-then-is_step-clause-all : goal.returns-then-is_step-clause-all
returns-then-is_step-clause-all g c d suits =
    let s = c.args.self.now in
    let at = (looked c.as_slice.result.now s.instance.now.network.children c.args.position c.in-Some.child.now (c.as_slice.ensures ∙ c.children.ensures)
    c.in-Some.ensures.lookup.0 c.in-Some.ensures.lookup.1) in
    let e = step_choice (g.L.PlanLines.lines s.lines.now) s.children.now s.instance.now.network s.sequence.now s.gap c.args.position d (child_view c.in-Some.child.now) at suits
    (sym c.is_step.ensures ∙ c.if-is_step.true) in
    (omega arith, omega arith)

pub returns-else-is_step-clause-all : goal.returns-else-is_step-clause-all
returns-else-is_step-clause-all g c d suits =
    let s = c.args.self.now in
    let a = c.args.position in
    let at = (looked c.as_slice.result.now s.instance.now.network.children c.args.position c.in-Some.child.now (c.as_slice.ensures ∙ c.children.ensures)
    c.in-Some.ensures.lookup.0 c.in-Some.ensures.lookup.1) in
    let low = child_choice (g.L.PlanLines.lines s.lines.now) s.children.now s.instance.now.network s.sequence.now s.gap a d (child_view c.in-Some.child.now) at suits
    (sym c.is_step.ensures ∙ c.if-is_step.false) in
    let linked = c.requires.2 in
    let inside = slice_get_within s.instance.now.network.children a (child_view c.in-Some.child.now) at in
    let link = get_or_default s.links.now.first.items a c.index.result.now 0 (let e = linked.firsts in let f = c.requires.0.square.0 in omega arith) in
    let read = c.index.ensures in
    let first = linked.first a d low suits in
    (omega arith, low)
