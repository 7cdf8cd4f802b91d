use Rattle.std.proofs.Common.{◌≡◌, [], get_or, true, false, Option, Some, option_map, sym, ap, subst, ◌∙◌}
use Rattle.std.specs.Prelude.{IfSome}
use Rattle.std.proofs.lemmas.Option.{slice_get-get_or}
use Rattle.htn_model.specs.Literal.{holds}
use Rattle.htn_model.specs.Problem.{perform_action}
use Rattle.htn_model.specs.State.{State}
use Rattle.network_table.specs.Networks.{network_at}
use Rattle.network_table.specs.Numbered.{config_at}
use Rattle.state_table.specs.Table.{IsSetOf, state_of}
use Rattle.task_machine.specs.Meaning.{state_at}
use Rattle.task_machine.specs.declared.performer.Performer.TheVariants.{Step, Action as Acts, Never}
use Rattle.task_machine.proofs.Performing.{acts, never, performer_of, step_goes, step_stays}
use Rattle.task_machine.proofs.Taking.{takes_none}
use Rattle.task_machine.proofs.machine.TaskMachine.add_performed.Goals as goal

pub returns-then-not-hold-clause-taken : goal.returns-then-not-hold-clause-taken
returns-then-not-hold-clause-taken c =
    let m = c.args.self.now in
    let t = m.task.now in
    let site = c.args.site.now in
    let tables = site.tables.now in
    let r = c.args.removal.now in
    let own = c.requires.own.tables in
    let right =
    performer_of t tables own r.node c.index.result.now (Step c.in-Step.literals) c.requires.leads.performer
    c.index.ensures (c.in-Some.is ∙ ap Some c.in-Step.is) in
    let told = c.hold.ensures tables.atoms right.0 own.atoms.table right.2 in
    let same = ap (λ w. holds (state_of tables.atoms w) right.0) c.requires.site.words in
    let test = c.if-not-hold.true in
    let fails : holds (state_at tables site.from.state) right.0 ≡ false = cc in
    let stays = step_stays t tables.networks (state_at tables site.from.state) r right.0 right.1 fails in
    takes_none t m.sizes m.prospects site c.args.number c.args.successors.now.items (c.requires.leads.leads ∙ sym stays)

pub add_known-requires-clause-known : goal.add_known-requires-clause-known
add_known-requires-clause-known c = c.requires.leads.known.0

pub add_known-requires-clause-leads : goal.add_known-requires-clause-leads
add_known-requires-clause-leads c =
    let t = c.args.self.now.task.now in
    let site = c.args.site.now in
    let tables = site.tables.now in
    let r = c.args.removal.now in
    let own = c.requires.own.tables in
    let right =
    performer_of t tables own r.node c.index.result.now (Step c.in-Step.literals) c.requires.leads.performer
    c.index.ensures (c.in-Some.is ∙ ap Some c.in-Step.is) in
    let told = c.hold.ensures tables.atoms right.0 own.atoms.table right.2 in
    let same = ap (λ w. holds (state_of tables.atoms w) right.0) c.requires.site.words in
    let test = c.if-not-hold.false in
    let hold : holds (state_at tables site.from.state) right.0 ≡ true = cc in
    let goes = step_goes t tables.networks (state_at tables site.from.state) r right.0 right.1 hold in
    c.requires.leads.leads ∙ sym goes

pub acted-requires-clause-compiled : goal.acted-requires-clause-compiled
acted-requires-clause-compiled c =
    let site = c.args.site.now in
    let right =
    performer_of c.args.self.now.task.now site.tables.now c.requires.own.tables c.args.removal.now.node c.index.result.now
    (Acts c.in-Action.action) c.requires.leads.performer c.index.ensures (c.in-Some.is ∙ ap Some c.in-Action.is) in
    (right.1, right.4)

pub acted-requires-clause-set : goal.acted-requires-clause-set
acted-requires-clause-set c =
    let site = c.args.site.now in
    let states = site.tables.now.states in
    let n = site.from.state in
    subst (IsSetOf site.tables.now.atoms) (sym c.requires.site.words)
    (c.requires.own.tables.sets n (get_or states n []) (slice_get-get_or states n [] c.requires.site.known.0))

pub returns-in_default-2-clause-taken : goal.returns-in_default-2-clause-taken
returns-in_default-2-clause-taken c =
    let m = c.args.self.now in
    let t = m.task.now in
    let site = c.args.site.now in
    let tables = site.tables.now in
    let r = c.args.removal.now in
    let right =
    performer_of t tables c.requires.own.tables r.node c.index.result.now (Acts c.in-Action.action)
    c.requires.leads.performer c.index.ensures (c.in-Some.is ∙ ap Some c.in-Action.is) in
    let to = λ (o : Option State). option_map (λ after. config_at after (network_at tables.networks r.network)) o in
    let here = ap (λ w. to (perform_action (state_of tables.atoms w) (Some right.1))) c.requires.site.words in
    let does = acts t tables.networks (state_at tables site.from.state) r right.0 right.1 right.2 right.3 in
    let leads = ap to (c.in_ok-after-in-Action.ensures.leads right.1 right.4) ∙ here ∙ does in
    let none = ap (λ o. to (option_map (state_of tables.atoms) o)) (sym c.in_default-2.is) ∙ leads in
    takes_none t m.sizes m.prospects site c.args.number c.args.successors.now.items (c.requires.leads.leads ∙ sym none)

pub add_new-requires-clause-set : goal.add_new-requires-clause-set
add_new-requires-clause-set c =
    subst (λ o. IfSome o (IsSetOf c.args.site.now.tables.now.atoms)) c.in-Some-2.is c.in_ok-after-in-Action.ensures.set

pub add_new-requires-clause-known : goal.add_new-requires-clause-known
add_new-requires-clause-known c = c.requires.leads.known.0

pub add_new-requires-clause-leads : goal.add_new-requires-clause-leads
add_new-requires-clause-leads c =
    let t = c.args.self.now.task.now in
    let site = c.args.site.now in
    let tables = site.tables.now in
    let r = c.args.removal.now in
    let right =
    performer_of t tables c.requires.own.tables r.node c.index.result.now (Acts c.in-Action.action)
    c.requires.leads.performer c.index.ensures (c.in-Some.is ∙ ap Some c.in-Action.is) in
    let to = λ (o : Option State). option_map (λ after. config_at after (network_at tables.networks r.network)) o in
    let here = ap (λ w. to (perform_action (state_of tables.atoms w) (Some right.1))) c.requires.site.words in
    let does = acts t tables.networks (state_at tables site.from.state) r right.0 right.1 right.2 right.3 in
    let leads = ap to (c.in_ok-after-in-Action.ensures.leads right.1 right.4) ∙ here ∙ does in
    let there = ap (λ o. to (option_map (state_of tables.atoms) o)) (sym c.in-Some-2.is) ∙ leads in
    c.requires.leads.leads ∙ sym there

pub returns-in-Never-clause-taken : goal.returns-in-Never-clause-taken
returns-in-Never-clause-taken c =
    let m = c.args.self.now in
    let t = m.task.now in
    let site = c.args.site.now in
    let tables = site.tables.now in
    let r = c.args.removal.now in
    let right =
    performer_of t tables c.requires.own.tables r.node c.index.result.now Never c.requires.leads.performer
    c.index.ensures (c.in-Some.is ∙ ap Some c.in-Never.is) in
    let state = state_at tables site.from.state in
    takes_none t m.sizes m.prospects site c.args.number c.args.successors.now.items
    (c.requires.leads.leads ∙ sym (never t tables.networks state r (right state)))
