use Rattle.std.proofs.Common.{rules, ◌≡◌, ◌∙◌, max, sym}
use Rattle.htn_model.specs.Grounding.{problem_of}
use Rattle.heuristics.specs.Needs.{may_end}
use Rattle.heuristics.specs.Prospects.{outlook_by}
use Rattle.state_table.specs.Table.{state_of}
use Rattle.heuristics.specs.Measure.{estimate}
use Rattle.heuristics.specs.Sizes.{out_of_reach, size_of}
use Rattle.task_machine.specs.Bounds.{most_steps}
use Rattle.task_machine.specs.Meaning.{config_in}
use Rattle.task_machine.proofs.Estimates.{bound_ending, bound_lost}
use Rattle.task_machine.proofs.tables.Tables.lower_bound.Goals as goal

pub returns-then-may_end : goal.returns-then-may_end
returns-then-may_end c = λ t sizes known own.
    let tables = c.args.self.now in
    let at = config_in tables c.args.state.now c.args.network in
    bound_ending c.least_steps-least.result (estimate (size_of sizes) most_steps at) c.may_end.result (may_end (problem_of t) (outlook_by known) at)
    (c.least_steps-least.ensures sizes (state_of tables.atoms c.args.state.now) own.sized)
    (c.may_end.ensures (problem_of t) (outlook_by known) tables.atoms tables.networks own.tables.atoms.table own.needed.kept own.goal) c.if-may_end.true

pub returns : goal.returns
returns c = λ t sizes known own.
    let tables = c.args.self.now in
    let at = config_in tables c.args.state.now c.args.network in
    let most : max c.least_steps-least.result out_of_reach ≡ c.max.result = search rules in
    sym most
    ∙ bound_lost c.least_steps-least.result (estimate (size_of sizes) most_steps at) c.may_end.result (may_end (problem_of t) (outlook_by known) at)
    (c.least_steps-least.ensures sizes (state_of tables.atoms c.args.state.now) own.sized)
    (c.may_end.ensures (problem_of t) (outlook_by known) tables.atoms tables.networks own.tables.atoms.table own.needed.kept own.goal) c.if-may_end.false
