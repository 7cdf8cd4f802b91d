use Rattle.std.proofs.Common.{◌∙◌, ◌<◌, ◌++◌, ◌∷◌, [], false, refl, sym, ap, subst}
use Rattle.htn_model.specs.Grounding.{problem_of}
use Rattle.htn_model.specs.Levels.{is_done}
use Rattle.task_machine.specs.Bounds.{BelongsTo, left_by}
use Rattle.task_machine.specs.Meaning.{config_in}
use Rattle.task_machine.specs.Site.{point_at, Takes}
use Rattle.task_machine.specs.declared.configuration.Reached.TheVariants.{Known}
use Rattle.task_machine.proofs.Taking.{belongs_there, takes_done, takes_more, takes_past}
use Rattle.task_machine.proofs.machine.TaskMachine.add_known.Goals as goal

pub is_finished-requires-clause-known : goal.is_finished-requires-clause-known
is_finished-requires-clause-known c = c.requires.known

pub left_in-left-requires-clause-known : goal.left_in-left-requires-clause-known
left_in-left-requires-clause-known c = c.requires.known

pub left_in-left-requires-clause-belongs : goal.left_in-left-requires-clause-belongs
left_in-left-requires-clause-belongs c =
    let m = c.args.self.now in
    let site = c.args.site.now in
    let there =
    belongs_there m site c.requires.site c.args.number (point_at site c.args.network) c.requires.leads in
    subst (λ w. BelongsTo m.task.now m.prospects (config_in site.tables.now w c.args.network)) (sym c.requires.site.words) there

pub returns-then-is_finished-clause-taken : goal.returns-then-is_finished-clause-taken
returns-then-is_finished-clause-taken c =
    let m = c.args.self.now in
    let t = m.task.now in
    let site = c.args.site.now in
    let finished =
    ap (λ w. is_done (problem_of t) (config_in site.tables.now w c.args.network)) (sym c.requires.site.words)
    ∙ sym (c.is_finished.ensures t c.requires.own.tables) ∙ c.if-is_finished.true in
    takes_done t m.sizes m.prospects site c.args.number c.args.successors.now.items (point_at site c.args.network)
    c.requires.leads c.args.successors.now.items finished

pub returns-then-is_past-clause-taken : goal.returns-then-is_past-clause-taken
returns-then-is_past-clause-taken c =
    let m = c.args.self.now in
    let t = m.task.now in
    let site = c.args.site.now in
    let unfinished =
    ap (λ w. is_done (problem_of t) (config_in site.tables.now w c.args.network)) (sym c.requires.site.words)
    ∙ sym (c.is_finished.ensures t c.requires.own.tables) ∙ c.if-is_finished.false in
    let past = c.is_past.ensures.past c.if-is_past.true in
    let left =
    c.left_in-left.ensures
    ∙ ap (λ w. left_by t m.sizes m.prospects site.horizon.measure (config_in site.tables.now w c.args.network)) c.requires.site.words in
    takes_past t m.sizes m.prospects site c.args.number c.args.successors.now.items (point_at site c.args.network)
    c.requires.leads unfinished (past.0, past.1, subst (λ k. past.0 < k) left past.2)

pub returns-clause-taken : goal.returns-clause-taken
returns-clause-taken c =
    let m = c.args.self.now in
    let t = m.task.now in
    let site = c.args.site.now in
    let old = c.args.successors.now.items in
    let unfinished =
    ap (λ w. is_done (problem_of t) (config_in site.tables.now w c.args.network)) (sym c.requires.site.words)
    ∙ sym (c.is_finished.ensures t c.requires.own.tables) ∙ c.if-is_finished.false in
    let left =
    c.left_in-left.ensures
    ∙ ap (λ w. left_by t m.sizes m.prospects site.horizon.measure (config_in site.tables.now w c.args.network)) c.requires.site.words in
    let at = Known site.from.state c.args.network in
    let taken =
    takes_more t m.sizes m.prospects site c.args.number old (point_at site c.args.network) c.requires.leads unfinished at
    (c.requires.site.known.0, c.requires.known) refl
    c.left_in-left.result left in
    subst (Takes t m.sizes m.prospects site c.args.number false old) (sym (c.in_ok-push.ensures.items
    ∙ ap (λ m. old ++ m ∷ []) c.measured.ensures)) taken
