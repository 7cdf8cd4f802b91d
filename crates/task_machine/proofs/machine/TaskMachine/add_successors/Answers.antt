use Rattle.std.proofs.Common.{◌≡◌, length, Some, option_map, option_and_then, sym, ap, subst, ◌∙◌}
use Rattle.std.specs.Prelude.{IsSome, slice_get}
use Rattle.std.proofs.lemmas.Option.{get_or_from_slice_get, slice_get_within}
use Rattle.std.proofs.lemmas.Result.{IfOk-weaker}
use Rattle.network_table.specs.Expansions.{IsKnownRemoval}
use Rattle.network_table.specs.Networks.{network_at, Knows}
use Rattle.network_table.specs.Numbered.{config_at}
use Rattle.network_table.specs.declared.expansion.Expansion.TheVariants.{Decomposed, Performed}
use Rattle.task_machine.specs.Meaning.{state_at}
use Rattle.task_machine.specs.Steps.{removed}
use Rattle.task_machine.specs.Tables.{slot}
use Rattle.task_machine.proofs.Performing.{leads_after}
use Rattle.task_machine.proofs.Taking.{taken_whole}
use Rattle.task_machine.proofs.machine.TaskMachine.add_successors.Goals as goal

pub add_decomposed-requires-clause-known : goal.add_decomposed-requires-clause-known
add_decomposed-requires-clause-known c = λ number network there.
    let t = c.args.self.now.task.now in
    let tables = c.args.tables.now in
    let from = c.args.from in
    let networks = c.in-Decomposed.networks in
    let e = Decomposed c.in-Decomposed.field-0 networks in
    let at = sym c.in-Some.ensures ∙ ap Some c.in-Decomposed.is in
    let of = c.requires.own.tables.sound from.network e c.requires.known.1 at in
    let here = subst (λ l. slice_get l number ≡ Some network) c.deref.ensures.value there in
    let inside = slice_get_within networks.items number network here in
    subst (Knows tables.networks) (get_or_from_slice_get networks.items number network network here)
    (of.known number network inside)

pub add_decomposed-requires-clause-leads : goal.add_decomposed-requires-clause-leads
add_decomposed-requires-clause-leads c = λ number network there.
    let t = c.args.self.now.task.now in
    let tables = c.args.tables.now in
    let from = c.args.from in
    let networks = c.in-Decomposed.networks in
    let e = Decomposed c.in-Decomposed.field-0 networks in
    let at = sym c.in-Some.ensures ∙ ap Some c.in-Decomposed.is in
    let here = subst (λ l. slice_get l number ≡ Some network) c.deref.ensures.value there in
    let leads = ap (option_map (λ n. config_at (state_at tables from.state) (network_at tables.networks n))) here in
    leads_after t tables c.requires.own.tables from c.requires.known e at number ∙ leads

pub add_removed-requires-clause-leads : goal.add_removed-requires-clause-leads
add_removed-requires-clause-leads c = λ number removal there.
    let t = c.args.self.now.task.now in
    let tables = c.args.tables.now in
    let from = c.args.from in
    let removals = c.in-Performed.removals in
    let at = sym c.in-Some.ensures ∙ ap Some c.in-Performed.is in
    let of = c.requires.own.tables.sound from.network (Performed removals) c.requires.known.1 at in
    let here = subst (λ l. slice_get l number ≡ Some removal) c.deref-in-Performed.ensures.value there in
    let inside = slice_get_within removals.items number removal here in
    let same = get_or_from_slice_get removals.items number removal removal here in
    let removes = removed t tables.networks (state_at tables from.state) in
    record {
      known = subst (IsKnownRemoval tables.networks) same (of.known number removal inside);
      performer = subst (λ r. IsSome (slot tables.performers.items r.node)) same
          (c.requires.own.tables.performed from.network (Performed removals) at number removal inside);
      leads = leads_after t tables c.requires.own.tables from c.requires.known (Performed removals) at number
          ∙ ap (option_and_then removes) here;
    }

pub returns-in-Decomposed-clause-whole : goal.returns-in-Decomposed-clause-whole
returns-in-Decomposed-clause-whole c =
    let m = c.args.self.now in
    let networks = c.in-Decomposed.networks in
    let e = Decomposed c.in-Decomposed.field-0 networks in
    let at = sym c.in-Some.ensures ∙ ap Some c.in-Decomposed.is in
    IfOk-weaker c.add_decomposed.result _ _
    (λ done taken. taken_whole m.task.now m.sizes m.prospects _ _ _ done _ taken e (ap length c.deref.ensures.value)
    c.requires.own.tables c.requires.known at)
    c.add_decomposed.ensures.taken

pub returns-in-Performed-clause-whole : goal.returns-in-Performed-clause-whole
returns-in-Performed-clause-whole c =
    let m = c.args.self.now in
    let removals = c.in-Performed.removals in
    let at = sym c.in-Some.ensures ∙ ap Some c.in-Performed.is in
    IfOk-weaker c.add_removed.result _ _
    (λ done taken. taken_whole m.task.now m.sizes m.prospects _ _ _ done _ taken (Performed removals)
    (ap length c.deref-in-Performed.ensures.value) c.requires.own.tables c.requires.known at)
    c.add_removed.ensures.taken
