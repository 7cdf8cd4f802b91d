use Rattle.std.proofs.Common.{All, Ok, subst, sym}
use Rattle.std.specs.Vec.Iter.{into_iter_items}
use Rattle.network_table.specs.Drafts.{HoldsFound}
use Rattle.network_table.proofs.Remembering.{all_known, holds_first, holds_kept, holds_rest, keeps_grown, remembered_none, remembered_then}
use Rattle.network_table.proofs.table.NetworkTable.remember_all.Goals as goal

pub loop-found-init : goal.loop-found-init
loop-found-init c = record {
  are = remembered_none c.args.self.now c.args.jobs.now c.requires.whole;
  left = subst (All (HoldsFound c.args.self.now c.args.jobs.now)) (sym c.into_iter-found-iterator.ensures.into_iter_gives.0) c.requires.found;
}

pub remember_found-requires-clause-known : goal.remember_found-requires-clause-known
remember_found-requires-clause-known c =
    all_known c.args.self.now c.loop-found.self c.args.jobs.now (keeps_grown c.args.self.now c.loop-found.self c.loop-found.invariant.are.grown) c.requires.known

pub remember_found-requires-clause-found : goal.remember_found-requires-clause-found
remember_found-requires-clause-found c =
    let s = c.args.self.now in
    let jobs = c.args.jobs.now in
    let first = holds_first (HoldsFound s jobs) (into_iter_items c.loop-found.found-iterator) (into_iter_items c.next.new.self) c.in-Some.found c.in-Some.ensures.steps.0 c.loop-found.invariant.left in
    holds_kept s c.loop-found.self jobs (Ok c.in_ok-found.field-0) c.requires.whole c.requires.known c.loop-found.invariant.are (subst (HoldsFound s jobs) c.in_ok-found.was first)

pub loop-found-preserved : goal.loop-found-preserved
loop-found-preserved c =
    let s = c.args.self.now in
    let jobs = c.args.jobs.now in record {
      are = remembered_then s c.loop-found.self c.remember_found.new.self jobs c.requires.whole c.requires.known c.loop-found.invariant.are c.remember_found.ensures;
      left = holds_rest (HoldsFound s jobs) (into_iter_items c.loop-found.found-iterator) (into_iter_items c.next.new.self) c.in-Some.found c.in-Some.ensures.steps.0 c.loop-found.invariant.left;
    }
