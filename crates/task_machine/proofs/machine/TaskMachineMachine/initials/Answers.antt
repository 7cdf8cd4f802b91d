use Rattle.std.proofs.Common.{◌∙◌, ap}
use Rattle.heuristics.specs.declared.needs_table.NeedsTable.{NeedsTable}
use Rattle.task_machine.proofs.Estimates.{kept_still, noted_still}
use Rattle.network_table.proofs.Expanding.{all_more, map_all}
use Rattle.task_machine.specs.Meaning.{knows, point}
use Rattle.task_machine.proofs.Owned.{later_tables_then, meaning_grown}
use Rattle.task_machine.proofs.machine.TaskMachineMachine.initials.Goals as goal

pub prepare_needs-requires-clause-kept : goal.prepare_needs-requires-clause-kept
prepare_needs-requires-clause-kept c =
    let m = c.args.self.now in
    let s = c.args.tables.now in
    let u = c.initials.new.self in
    let later = c.in_ok-initials.ensures.later in
    kept_still m.prospects s u later c.in_ok-initials.ensures.needs c.requires.own.tables.networks c.requires.own.needed.kept

pub prepare_needs-requires-clause-noted : goal.prepare_needs-requires-clause-noted
prepare_needs-requires-clause-noted c =
    noted_still c.args.self.now.prospects c.args.tables.now c.initials.new.self c.in_ok-initials.ensures.later c.in_ok-initials.ensures.needs c.requires.own.tables.networks c.requires.own.needed.kept.within c.requires.own.noted

pub returns-clause-owned : goal.returns-clause-owned
returns-clause-owned c =
    let m = c.args.self.now in
    let did = c.in_ok-initials.ensures in
    c.in_ok-prepare_needs.ensures.owned m.task.now m.sizes did.owned did.sized (ap (λ (n : NeedsTable). n.goal) did.needs ∙ c.requires.own.goal)

pub returns-clause-grown : goal.returns-clause-grown
returns-clause-grown c =
    let t = c.args.self.now.task.now in
    let s = c.args.tables.now in
    let u = c.initials.new.self in
    let v = c.prepare_needs.new.self in
    let did = c.in_ok-initials.ensures in
    meaning_grown t s v c.requires.own.tables (later_tables_then s u v did.later (c.in_ok-prepare_needs.ensures.later t did.owned))

pub returns-clause-known : goal.returns-clause-known
returns-clause-known c =
    let t = c.args.self.now.task.now in
    let u = c.initials.new.self in
    let v = c.prepare_needs.new.self in
    let did = c.in_ok-initials.ensures in
    let grown = meaning_grown t u v did.owned (c.in_ok-prepare_needs.ensures.later t did.owned) in
    all_more (knows u) (knows v) grown.known c.in_ok-initials.initials.items did.known

pub returns-clause-initials : goal.returns-clause-initials
returns-clause-initials c =
    let t = c.args.self.now.task.now in
    let u = c.initials.new.self in
    let v = c.prepare_needs.new.self in
    let did = c.in_ok-initials.ensures in
    let grown = meaning_grown t u v did.owned (c.in_ok-prepare_needs.ensures.later t did.owned) in
    map_all (knows u) (point v) (point u) grown.same c.in_ok-initials.initials.items did.known ∙ did.points
