use Rattle.std.proofs.Common.{◌≤◌, ap, length, subst, sym}
use Rattle.std.specs.Vec.Iter.{into_iter_items}
use Rattle.network_table.specs.Networks.{children}
use Rattle.network_table.proofs.Expanding.{all_more}
use Rattle.network_table.proofs.Remembering.{holds_first, holds_rest}
use Rattle.heuristics.specs.FoundNeeds.{HoldsFound, IsFound}
use Rattle.heuristics.proofs.FoundNeeds.{followed_then, found_then}
use Rattle.heuristics.proofs.needs_table.NeedsTable.keep_networks_all.Goals as goal

pub put_part-requires-clause-all : goal.put_part-requires-clause-all
put_part-requires-clause-all g c =
    subst (λ k. length (children c.args.networks.now) ≤ k) (ap (λ v. length v.items) (sym c.loop-part.invariant.followed.nodes)) c.requires.all

pub put_part-requires-clause-found : goal.put_part-requires-clause-found
put_part-requires-clause-found g c =
    let p = c.args.prospects.now in
    let t = c.args.networks.now in
    let s = c.args.self.now in
    let i = c.loop-part.invariant in
    let own =
    subst (HoldsFound p s t) c.in_ok-part.was
    (holds_first (HoldsFound p s t) (into_iter_items c.loop-part.part-iterator) (into_iter_items c.next.new.self) c.in-Some.part c.in-Some.ensures.steps.0 i.parts) in
    all_more (IsFound p s t) (IsFound p c.loop-part.self t) (λ found is. found_then p t s c.loop-part.self found i.followed is) c.in_ok-part.field-0.items own

pub loop-part-preserved : goal.loop-part-preserved
loop-part-preserved g c =
    let p = c.args.prospects.now in
    let t = c.args.networks.now in
    let s = c.args.self.now in
    let i = c.loop-part.invariant in
    record {
      parts = holds_rest (HoldsFound p s t) (into_iter_items c.loop-part.part-iterator) (into_iter_items c.next.new.self) c.in-Some.part c.in-Some.ensures.steps.0 i.parts;
      followed = followed_then p t s c.loop-part.self c.put_part.new.self i.followed c.in_ok-put_part.ensures;
    }

pub keep_until-requires-clause-all : goal.keep_until-requires-clause-all
keep_until-requires-clause-all g c =
    subst (λ k. length (children c.args.networks.now) ≤ k) (ap (λ v. length v.items) (sym c.loop-part.invariant.followed.nodes)) c.requires.all

pub returns-clause-followed : goal.returns-clause-followed
returns-clause-followed g c =
    followed_then c.args.prospects.now c.args.networks.now c.args.self.now c.loop-part.self c.keep_until.new.self c.loop-part.invariant.followed c.in_ok-keep_until.ensures.followed
