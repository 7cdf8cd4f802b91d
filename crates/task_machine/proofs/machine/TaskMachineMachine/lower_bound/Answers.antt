use Rattle.std.proofs.Common.{◌∙◌, ap, sym}
use Rattle.htn_model.specs.Grounding.{problem_of}
use Rattle.htn_walk.specs.Listed.{listing_machine}
use Rattle.heuristics.specs.Prospects.{outlook_by}
use Rattle.heuristics.specs.Sizes.{size_of}
use Rattle.task_machine.specs.Bounds.{bound_by, own_bound}
use Rattle.task_machine.specs.Meaning.{config_in, point}
use Rattle.task_machine.proofs.Estimates.{is_needed}
use Rattle.task_machine.proofs.Performing.{words_at}
use Rattle.task_machine.proofs.machine.TaskMachineMachine.lower_bound.Goals as goal

pub lower_bound-requires-clause-needed : goal.lower_bound-requires-clause-needed
lower_bound-requires-clause-needed c =
    let m = c.args.self.now in
    is_needed m.task.now m.sizes m.prospects c.args.tables.now c.requires.own c.args.at.network c.requires.known.1

pub returns : goal.returns
returns c =
    let m = c.args.self.now in
    let t = m.task.now in
    let tables = c.args.tables.now in
    let at = c.args.at in
    let o = outlook_by m.prospects in
    let size = size_of m.sizes in
    let words =
    words_at t tables c.requires.own.tables at.state c.states-states.result.now c.index-states-at.result c.requires.known.0
    c.states-states.ensures.value c.index-states-at.is in
    c.lower_bound.ensures t m.sizes m.prospects c.requires.own
    ∙ ap (λ w. bound_by (problem_of t) size o (config_in tables w at.network)) words
    ∙ sym (own_bound t m.grounded (listing_machine t).initials size m.prospects (point tables at) m.known c.requires.belongs)
