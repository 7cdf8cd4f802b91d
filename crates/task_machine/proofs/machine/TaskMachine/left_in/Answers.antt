use Rattle.std.proofs.Common.{◌∙◌, ap, sym}
use Rattle.htn_walk.specs.Listed.{listing_machine}
use Rattle.heuristics.specs.Sizes.{size_of}
use Rattle.word_machine.specs.declared.measure.Measure.{Measure}
use Rattle.task_machine.specs.Bounds.{left_by, own_bound}
use Rattle.task_machine.specs.Meaning.{config_in}
use Rattle.task_machine.proofs.Estimates.{is_needed}
use Rattle.task_machine.proofs.machine.TaskMachine.left_in.Goals as goal

pub lower_bound-requires-clause-needed : goal.lower_bound-requires-clause-needed
lower_bound-requires-clause-needed c =
    let m = c.args.self.now in
    is_needed m.task.now m.sizes m.prospects c.args.tables.now c.requires.own c.args.network c.requires.known

pub returns-in-LowerBound : goal.returns-in-LowerBound
returns-in-LowerBound c =
    let m = c.args.self.now in
    let t = m.task.now in
    let at = config_in c.args.tables.now c.args.state.now c.args.network in
    c.lower_bound.ensures t m.sizes m.prospects c.requires.own
    ∙ sym (own_bound t m.grounded (listing_machine t).initials (size_of m.sizes) m.prospects at m.known c.requires.belongs)
    ∙ ap (λ (k : Measure). left_by t m.sizes m.prospects k at) (sym c.in-LowerBound.is)
