use Rattle.std.proofs.Common.{Ok, subst, sym}
use Rattle.std.specs.Vec.Iter.{into_iter_items}
use Rattle.network_table.specs.Drafts.{AreNoted, HoldsMade}
use Rattle.network_table.proofs.Tables.{more_then}
use Rattle.network_table.proofs.Remembering.{holds_first, holds_rest, made_more}
use Rattle.network_table.proofs.table.NetworkTable.note_all.Goals as goal

pub note_made-requires-clause-made : goal.note_made-requires-clause-made
note_made-requires-clause-made g c κs within =
    let s = c.args.self.now in
    let jobs = c.args.jobs.now in
    let first = holds_first (HoldsMade s jobs) (into_iter_items c.loop-made.made-iterator) (into_iter_items c.next.new.self) c.in-Some.made c.in-Some.ensures.steps.0 c.loop-made.invariant.made in
    (made_more s c.loop-made.self jobs c.requires.known c.loop-made.invariant.more (Ok c.in_ok-made.made) (subst (HoldsMade s jobs) c.in_ok-made.was first)).0

pub note_found-requires-clause-found : goal.note_found-requires-clause-found
note_found-requires-clause-found g c =
    let s = c.args.self.now in
    let jobs = c.args.jobs.now in
    let first = holds_first (HoldsMade s jobs) (into_iter_items c.loop-made.made-iterator) (into_iter_items c.next.new.self) c.in-Some.made c.in-Some.ensures.steps.0 c.loop-made.invariant.made in
    subst (AreNoted c.loop-made.self jobs) (sym c.deref.ensures.value) (made_more s c.loop-made.self jobs c.requires.known c.loop-made.invariant.more (Ok c.in_ok-made.made) (subst (HoldsMade s jobs) c.in_ok-made.was first)).1

pub loop-made-preserved : goal.loop-made-preserved
loop-made-preserved g c =
    let s = c.args.self.now in
    let jobs = c.args.jobs.now in
    let noted = c.in_ok-note_made.ensures in record {
      whole = noted.whole;
      more = more_then s c.loop-made.self c.note_made.new.self c.loop-made.invariant.more noted.more;
      made = holds_rest (HoldsMade s jobs) (into_iter_items c.loop-made.made-iterator) (into_iter_items c.next.new.self) c.in-Some.made c.in-Some.ensures.steps.0 c.loop-made.invariant.made;
      noted = noted.noted;
    }
