use Rattle.std.proofs.Common.{◌∙◌, ◌<◌, ◌++◌, ◌∷◌, [], false, sym, ap, subst}
use Rattle.task_machine.specs.Meaning.{config_in}
use Rattle.task_machine.specs.Site.{Takes}
use Rattle.task_machine.proofs.Taking.{belongs_there, takes_done, takes_more, takes_past}
use Rattle.task_machine.proofs.machine.TaskMachine.add_new.Goals as goal

pub is_finished-requires-clause-known : goal.is_finished-requires-clause-known
is_finished-requires-clause-known c = c.requires.known

pub left_in-left-requires-clause-known : goal.left_in-left-requires-clause-known
left_in-left-requires-clause-known c = c.requires.known

pub left_in-left-requires-clause-belongs : goal.left_in-left-requires-clause-belongs
left_in-left-requires-clause-belongs c =
    belongs_there c.args.self.now c.args.site.now c.requires.site c.args.number
    (config_in c.args.site.now.tables.now c.args.state c.args.network) c.requires.leads

pub returns-then-is_finished-clause-taken : goal.returns-then-is_finished-clause-taken
returns-then-is_finished-clause-taken c =
    let m = c.args.self.now in
    let t = m.task.now in
    takes_done t m.sizes m.prospects c.args.site.now c.args.number c.args.successors.now.items
    (config_in c.args.site.now.tables.now c.args.state c.args.network) c.requires.leads c.args.successors.now.items
    (sym (c.is_finished.ensures t c.requires.own.tables) ∙ c.if-is_finished.true)

pub returns-then-is_past-clause-taken : goal.returns-then-is_past-clause-taken
returns-then-is_past-clause-taken c =
    let m = c.args.self.now in
    let t = m.task.now in
    let past = c.is_past.ensures.past c.if-is_past.true in
    takes_past t m.sizes m.prospects c.args.site.now c.args.number c.args.successors.now.items
    (config_in c.args.site.now.tables.now c.args.state c.args.network) c.requires.leads
    (sym (c.is_finished.ensures t c.requires.own.tables) ∙ c.if-is_finished.false)
    (past.0, past.1, subst (λ k. past.0 < k) c.left_in-left.ensures past.2)

pub returns-clause-taken : goal.returns-clause-taken
returns-clause-taken c =
    let m = c.args.self.now in
    let t = m.task.now in
    let site = c.args.site.now in
    let old = c.args.successors.now.items in
    let taken =
    takes_more t m.sizes m.prospects site c.args.number old (config_in site.tables.now c.args.state c.args.network)
    c.requires.leads (sym (c.is_finished.ensures t c.requires.own.tables) ∙ c.if-is_finished.false)
    c.in_ok-configuration.configuration c.in_ok-configuration.ensures.allowed c.in_ok-configuration.ensures.point
    c.left_in-left.result c.left_in-left.ensures in
    subst (Takes t m.sizes m.prospects site c.args.number false old) (sym (c.in_ok-push.ensures.items
    ∙ ap (λ m. old ++ m ∷ []) c.measured.ensures)) taken
