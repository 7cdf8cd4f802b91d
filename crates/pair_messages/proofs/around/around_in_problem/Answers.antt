use Rattle.std.proofs.Common.{refl}
use Rattle.hddl_meaning.specs.Uses.{parameters_of, schema_of_network}
use Rattle.pair_messages.specs.Stands.{schema_of_subtasks}
use Rattle.pair_messages.proofs.Standing.{problem_network, widen}
use Rattle.pair_messages.proofs.around.around_in_problem.Goals as goal

pub returns-in-Some : goal.returns-in-Some
returns-in-Some c =
    let p = c.args.index.now.texts.now.problem_tree.now in
    let own = schema_of_subtasks (parameters_of p.htn.parameters) p.htn.network in
    let item = c.in-Some._item in
    (refl, (schema_of_network p, (refl, refl), (item, widen own (schema_of_network p) c.args.place item (problem_network p) c.in-Some.ensures)))
