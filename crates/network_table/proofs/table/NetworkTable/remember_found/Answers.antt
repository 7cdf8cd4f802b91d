use Rattle.std.proofs.Common.{All, subst, sym}
use Rattle.std.specs.Vec.Iter.{into_iter_items}
use Rattle.network_table.specs.Drafts.{IsFound}
use Rattle.network_table.proofs.Remembering.{all_known, found_kept, holds_first, holds_rest, keeps_grown, remembered_none, remembered_then}
use Rattle.network_table.proofs.table.NetworkTable.remember_found.Goals as goal

pub loop-one-init : goal.loop-one-init
loop-one-init c = record {
  are = remembered_none c.args.self.now c.args.jobs.now c.requires.whole;
  left = subst (All (IsFound c.args.self.now c.args.jobs.now)) (sym c.into_iter-one-iterator.ensures.into_iter_gives.0) c.requires.found;
}

pub remember_one-requires-clause-known : goal.remember_one-requires-clause-known
remember_one-requires-clause-known c =
    all_known c.args.self.now c.loop-one.self c.args.jobs.now (keeps_grown c.args.self.now c.loop-one.self c.loop-one.invariant.are.grown) c.requires.known

pub remember_one-requires-clause-found : goal.remember_one-requires-clause-found
remember_one-requires-clause-found c =
    let s = c.args.self.now in
    let jobs = c.args.jobs.now in
    found_kept s c.loop-one.self jobs c.in-Some.one c.requires.whole c.requires.known c.loop-one.invariant.are
    (holds_first (IsFound s jobs) (into_iter_items c.loop-one.one-iterator) (into_iter_items c.next.new.self) c.in-Some.one c.in-Some.ensures.steps.0 c.loop-one.invariant.left)

pub loop-one-preserved : goal.loop-one-preserved
loop-one-preserved c =
    let s = c.args.self.now in
    let jobs = c.args.jobs.now in record {
      are = remembered_then s c.loop-one.self c.remember_one.new.self jobs c.requires.whole c.requires.known c.loop-one.invariant.are c.remember_one.ensures;
      left = holds_rest (IsFound s jobs) (into_iter_items c.loop-one.one-iterator) (into_iter_items c.next.new.self) c.in-Some.one c.in-Some.ensures.steps.0 c.loop-one.invariant.left;
    }
