use Rattle.std.proofs.Common.{◌∙◌, ◌++◌, ℕ, List, All, IsSome, ap, ap₂, subst, sym}
use Rattle.std.proofs.lemmas.Bool.{eqb-true}
use Rattle.std.proofs.lemmas.List.{nil_from_length, take-append-drop}
use Rattle.std.proofs.lemmas.List.Elements.{All-drop, All-take}
use Rattle.heuristics.specs.declared.needs_table.NeedsTable.{NeedsTable}
use Rattle.network_table.specs.Networks.{expansion_at, Knows}
use Rattle.network_table.specs.declared.table.NetworkTable.{NetworkTable}
use Rattle.task_machine.proofs.Blocks.{all_ready, prepared_all, prepared_next, prepared_none}
use Rattle.task_machine.proofs.Estimates.{kept_still, noted_still}
use Rattle.task_machine.proofs.Owned.{later_tables_then}
use Rattle.task_machine.proofs.tables.Tables.prepare_all.Goals as goal

pub loop-rest-init : goal.loop-rest-init
loop-rest-init g c =
    let s = c.args.self.now in
    prepared_none c.args.task.now c.args.sizes.now c.args.prospects.now s c.as_slice-rest.result.now c.requires.own
    (subst (All (Knows s.networks)) (sym c.as_slice-rest.ensures.keys) c.in_ok-todo.ensures.known)

pub prepare_block-requires-clause-own : goal.prepare_block-requires-clause-own
prepare_block-requires-clause-own g c κs within = c.loop-rest.invariant.owned.tables

pub prepare_block-requires-clause-sized : goal.prepare_block-requires-clause-sized
prepare_block-requires-clause-sized g c κs within = c.loop-rest.invariant.owned.sized

pub prepare_block-requires-clause-known : goal.prepare_block-requires-clause-known
prepare_block-requires-clause-known g c κs within =
    let known = Knows c.loop-rest.self.networks in
    subst (All known) (sym c.split_at.ensures.front) (All-take known c.min.result c.loop-rest.rest.now c.loop-rest.invariant.numbered)

pub prepare_needs_all-requires-clause-kept : goal.prepare_needs_all-requires-clause-kept
prepare_needs_all-requires-clause-kept g c κs within =
    let own = c.loop-rest.invariant.owned in
    let did = c.in_ok-prepare_block.ensures in
    kept_still c.args.prospects.now c.loop-rest.self c.prepare_block.new.self did.later did.needs own.tables.networks own.needed.kept

pub prepare_needs_all-requires-clause-noted : goal.prepare_needs_all-requires-clause-noted
prepare_needs_all-requires-clause-noted g c κs within =
    let own = c.loop-rest.invariant.owned in
    let did = c.in_ok-prepare_block.ensures in
    noted_still c.args.prospects.now c.loop-rest.self c.prepare_block.new.self did.later did.needs own.tables.networks own.needed.kept.within own.noted

pub loop-rest-preserved : goal.loop-rest-preserved
loop-rest-preserved g c =
    let t = c.args.task.now in
    let sizes = c.args.sizes.now in
    let s = c.loop-rest.self in
    let u = c.prepare_block.new.self in
    let v = c.prepare_needs_all.new.self in
    let i = c.loop-rest.invariant in
    let rest = c.loop-rest.rest.now in
    let block = c.split_at.result.0.now in
    let later = c.split_at.result.1.now in
    let n = c.min.result in
    let did = c.in_ok-prepare_block.ensures in
    let last = c.in_ok-prepare_needs_all.ensures in
    prepared_next t sizes c.args.prospects.now c.args.self.now s v c.as_slice-rest.result.now rest block later i
    (later_tables_then s u v did.later (last.later t did.owned))
    (last.owned t sizes did.owned did.sized (ap (λ (x : NeedsTable). x.goal) did.needs ∙ i.owned.goal))
    (sym (take-append-drop n rest) ∙ sym (ap₂ (λ (xs ys : List ℕ). xs ++ ys) c.split_at.ensures.front c.split_at.ensures.back))
    (subst (All (Knows s.networks)) (sym c.split_at.ensures.back) (All-drop (Knows s.networks) n rest i.numbered))
    (subst (λ (x : NetworkTable). All (λ m. IsSome (expansion_at x m)) block) (sym last.networks) did.ready)

pub returns-clause-owned : goal.returns-clause-owned
returns-clause-owned g c = c.loop-rest.invariant.owned

pub returns-clause-later : goal.returns-clause-later
returns-clause-later g c = c.loop-rest.invariant.later

pub returns-clause-ready : goal.returns-clause-ready
returns-clause-ready g c =
    let s = c.args.self.now in
    let v = c.loop-rest.self in
    let i = c.loop-rest.invariant in
    let rest = c.loop-rest.rest.now in
    let none = nil_from_length rest (eqb-true _ _ (sym c.is_empty.ensures ∙ c.loop-rest-test.false)) in
    let ready = prepared_all c.args.task.now c.args.sizes.now c.args.prospects.now s v c.as_slice-rest.result.now rest i none in
    all_ready s.networks v.networks i.later.networks c.in_ok-todo.todo.keys c.args.at.now c.in_ok-todo.ensures.all
    (subst (All (λ n. IsSome (expansion_at v.networks n))) c.as_slice-rest.ensures.keys ready)
