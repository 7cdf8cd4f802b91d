use Rattle.std.proofs.Common.{◌∙◌, ◌<◌, All, Some, ap, length, subst, sym}
use Rattle.network_table.specs.Networks.{children}
use Rattle.network_table.specs.declared.expansion.Expansion.TheVariants.{Performed}
use Rattle.network_table.specs.declared.expansion.Removal.{Removal}
use Rattle.task_machine.proofs.performer.prepare_performers.Goals as goal

pub prepare_nodes-requires-clause-known : goal.prepare_nodes-requires-clause-known
prepare_nodes-requires-clause-known c =
    subst (All (λ (r : Removal). r.node < length (children c.args.networks.now))) (sym c.deref.ensures.value)
    (c.requires.nodes (Performed c.in-Some-Performed.removals) (sym c.in-Some-Performed.ensures ∙ ap Some c.in-Some-Performed.field-0-is))
