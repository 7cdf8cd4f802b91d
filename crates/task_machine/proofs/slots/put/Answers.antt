use Rattle.std.proofs.Common.{◌∙◌, ap, arith, Some, None}
use Rattle.std.proofs.lemmas.List.{get_or-set_same, get_or-set_other}
use Rattle.network_table.proofs.Tables.{none_added}
use Rattle.task_machine.specs.Tables.{slot}
use Rattle.task_machine.proofs.slots.put.Goals as goal

pub loop-slots-preserved : goal.loop-slots-preserved
loop-slots-preserved g c = λ n. ap (λ l. slot l n) c.in_ok-push.ensures.items ∙ none_added c.loop-slots.slots.items n ∙ c.loop-slots.invariant n

pub returns-clause-here : goal.returns-clause-here
returns-clause-here g c = get_or-set_same c.loop-slots.slots.items c.args.number (Some c.args.value) None (omega arith)

pub returns-clause-others : goal.returns-clause-others
returns-clause-others g c = λ n apart. get_or-set_other c.loop-slots.slots.items c.args.number n (Some c.args.value) None apart ∙ c.loop-slots.invariant n
