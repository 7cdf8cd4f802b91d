use Rattle.std.proofs.Common.{◌≤◌, ap, length, subst, sym}
use Rattle.std.specs.Vec.Iter.{into_iter_items}
use Rattle.network_table.specs.Networks.{children}
use Rattle.network_table.proofs.Remembering.{holds_first, holds_rest}
use Rattle.heuristics.specs.FoundNeeds.{IsFound}
use Rattle.heuristics.proofs.FoundNeeds.{followed_then, found_then}
use Rattle.heuristics.proofs.needs_table.NeedsTable.put_part.Goals as goal

pub put_down-requires-clause-all : goal.put_down-requires-clause-all
put_down-requires-clause-all c =
    subst (λ k. length (children c.args.networks.now) ≤ k) (ap (λ v. length v.items) (sym c.loop-one.invariant.followed.nodes)) c.requires.all

pub put_down-requires-clause-found : goal.put_down-requires-clause-found
put_down-requires-clause-found c =
    let p = c.args.prospects.now in
    let t = c.args.networks.now in
    let s = c.args.self.now in
    let i = c.loop-one.invariant in
    found_then p t s c.loop-one.self c.in-Some.one i.followed
    (holds_first (IsFound p s t) (into_iter_items c.loop-one.one-iterator) (into_iter_items c.next.new.self) c.in-Some.one c.in-Some.ensures.steps.0 i.found)

pub loop-one-preserved : goal.loop-one-preserved
loop-one-preserved c =
    let p = c.args.prospects.now in
    let t = c.args.networks.now in
    let s = c.args.self.now in
    let i = c.loop-one.invariant in
    record {
      found = holds_rest (IsFound p s t) (into_iter_items c.loop-one.one-iterator) (into_iter_items c.next.new.self) c.in-Some.one c.in-Some.ensures.steps.0 i.found;
      followed = followed_then p t s c.loop-one.self c.put_down.new.self i.followed c.in_ok-put_down.ensures;
    }
