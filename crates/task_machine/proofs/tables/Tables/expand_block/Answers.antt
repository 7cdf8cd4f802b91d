use Rattle.std.proofs.Common.{◌≡◌, All, IsSome, List, subst, sym}
use Rattle.network_table.specs.Children.{AreBounds}
use Rattle.network_table.specs.Networks.{expansion_at, Knows}
use Rattle.heuristics.specs.Sizes.{size_of}
use Rattle.task_machine.specs.Blocks.{IsFirst, IsListed, networks_of}
use Rattle.task_machine.specs.Steps.{live_networks}
use Rattle.task_machine.specs.declared.prepare_all.Listed.{Listed}
use Rattle.task_machine.proofs.Blocks.{all_known_later, block_of_jobs, jobs_known, jobs_of_block, jobs_right, jobs_within, made_jobs}
use Rattle.task_machine.proofs.Owned.{expanded, later_networks, later_tables_then}
use Rattle.task_machine.proofs.tables.Tables.expand_block.Goals as goal

pub prepare_firsts-requires-clause-known : goal.prepare_firsts-requires-clause-known
prepare_firsts-requires-clause-known g c =
    let t = c.args.self.now.networks in
    subst (λ (l : List Listed). All (Knows t) (networks_of l)) (sym c.as_slice.ensures.value) (subst (All (Knows t)) (sym c.in_ok-found.ensures.networks) c.requires.known)

pub prepare_firsts-requires-clause-first : goal.prepare_firsts-requires-clause-first
prepare_firsts-requires-clause-first g c =
    let t = c.args.self.now.networks in
    subst (All (λ (x : Listed). IsFirst t x.network x.node)) (sym c.as_slice.ensures.value) c.in_ok-found.ensures.first

pub expand_all-requires-clause-known : goal.expand_all-requires-clause-known
expand_all-requires-clause-known g c κs within =
    let s = c.args.self.now in
    let u = c.prepare_firsts.new.self in
    let block = c.args.block.now in
    let found = c.in_ok-found.found.items in
    let did = c.in_ok-prepare_firsts.ensures in
    let networks = c.in_ok-found.ensures.networks in
    let listed = subst (All (λ (x : Listed). IsListed u x.network x.node)) c.as_slice.ensures.value did.listed in
    let known = all_known_later s.networks u.networks c.requires.own.networks did.later.networks block c.requires.known in
    let made = made_jobs u.instances.items c.deref.result.now found c.as_slice-2.result.now c.in_ok-jobs.jobs.items c.as_slice-3.result.now c.deref.ensures.value c.as_slice-2.ensures.value c.as_slice-3.ensures.value c.in_ok-jobs.ensures in
    jobs_known c.args.task.now u did.owned block found c.as_slice-3.result.now networks known listed made

pub expand_all-requires-clause-within : goal.expand_all-requires-clause-within
expand_all-requires-clause-within g c κs within =
    let s = c.args.self.now in
    let u = c.prepare_firsts.new.self in
    let block = c.args.block.now in
    let found = c.in_ok-found.found.items in
    let did = c.in_ok-prepare_firsts.ensures in
    let networks = c.in_ok-found.ensures.networks in
    let listed = subst (All (λ (x : Listed). IsListed u x.network x.node)) c.as_slice.ensures.value did.listed in
    let known = all_known_later s.networks u.networks c.requires.own.networks did.later.networks block c.requires.known in
    let made = made_jobs u.instances.items c.deref.result.now found c.as_slice-2.result.now c.in_ok-jobs.jobs.items c.as_slice-3.result.now c.deref.ensures.value c.as_slice-2.ensures.value c.as_slice-3.ensures.value c.in_ok-jobs.ensures in
    jobs_within c.args.task.now u did.owned block found c.as_slice-3.result.now networks known listed made

pub returns-clause-expanded : goal.returns-clause-expanded
returns-clause-expanded g c =
    let t = c.args.task.now in
    let s = c.args.self.now in
    let u = c.prepare_firsts.new.self in
    let block = c.args.block.now in
    let found = c.in_ok-found.found.items in
    let did = c.in_ok-prepare_firsts.ensures in
    let last = c.in_ok-expand_all.ensures in
    let networks = c.in_ok-found.ensures.networks in
    let listed = subst (All (λ (x : Listed). IsListed u x.network x.node)) c.as_slice.ensures.value did.listed in
    let known = all_known_later s.networks u.networks c.requires.own.networks did.later.networks block c.requires.known in
    let made = made_jobs u.instances.items c.deref.result.now found c.as_slice-2.result.now c.in_ok-jobs.jobs.items c.as_slice-3.result.now c.deref.ensures.value c.as_slice-2.ensures.value c.as_slice-3.ensures.value c.in_ok-jobs.ensures in
    let right = jobs_right t u did.owned block found c.as_slice-3.result.now networks known listed made in
    let each = jobs_of_block t u did.owned block found c.as_slice-3.result.now networks known listed made in
    expanded t u block c.expand_all.new.self last.whole last.grown (last.sound (live_networks t) right did.owned.sound)
    (λ n apart. last.others n (each (λ m. n ≡ m → ⊥) apart)) did.owned

pub returns-clause-later : goal.returns-clause-later
returns-clause-later g c =
    let did = c.in_ok-prepare_firsts.ensures in
    let u = c.prepare_firsts.new.self in
    later_tables_then c.args.self.now u _ did.later (later_networks c.args.task.now u c.expand_all.new.self c.in_ok-expand_all.ensures.grown did.owned)

pub returns-clause-sized : goal.returns-clause-sized
returns-clause-sized g c = subst (AreBounds (size_of c.args.sizes.now)) (sym c.in_ok-expand_all.ensures.children) c.in_ok-prepare_firsts.ensures.sized

pub returns-clause-ready : goal.returns-clause-ready
returns-clause-ready g c =
    let t = c.args.task.now in
    let s = c.args.self.now in
    let u = c.prepare_firsts.new.self in
    let block = c.args.block.now in
    let found = c.in_ok-found.found.items in
    let did = c.in_ok-prepare_firsts.ensures in
    let networks = c.in_ok-found.ensures.networks in
    let listed = subst (All (λ (x : Listed). IsListed u x.network x.node)) c.as_slice.ensures.value did.listed in
    let known = all_known_later s.networks u.networks c.requires.own.networks did.later.networks block c.requires.known in
    let made = made_jobs u.instances.items c.deref.result.now found c.as_slice-2.result.now c.in_ok-jobs.jobs.items c.as_slice-3.result.now c.deref.ensures.value c.as_slice-2.ensures.value c.as_slice-3.ensures.value c.in_ok-jobs.ensures in
    block_of_jobs t u did.owned block found c.as_slice-3.result.now networks known listed made (λ n. IsSome (expansion_at c.expand_all.new.self n)) c.in_ok-expand_all.ensures.ready
