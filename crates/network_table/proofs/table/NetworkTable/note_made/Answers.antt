use Rattle.std.proofs.Common.{◌<◌, length, sym, subst, arith}
use Rattle.network_table.specs.Entries.{networks_alone}
use Rattle.network_table.specs.Drafts.{IsPlaced}
use Rattle.network_table.proofs.Drafting.{noted_place}
use Rattle.network_table.proofs.table.NetworkTable.note_made.Goals as goal

pub loop-index-preserved : goal.loop-index-preserved
loop-index-preserved g c =
    let s = c.args.self.now in
    let t = c.keep_all.new.self in
    let jobs = c.args.jobs.now in
    let networks = networks_alone c.args.made.networks.items in
    let place = c.index-place.result.now in
    let inside : c.loop-index.index < length c.args.made.places.items = omega (arith, c.loop-index-test.true, c.len-index-end.ensures) in
    let placed = subst (IsPlaced s jobs networks) (sym c.index-place.ensures) (c.requires.made.placed c.loop-index.index place inside) in
    let known = noted_place s t jobs networks c.in_ok-numbers.numbers.items place c.index-number.result.now c.in_ok-numbers.ensures.more c.requires.known c.in_ok-numbers.ensures.each placed c.index-number.ensures in
    c.note_at.ensures t jobs known c.loop-index.invariant
