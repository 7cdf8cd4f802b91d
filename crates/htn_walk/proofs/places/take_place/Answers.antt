use Rattle.std.proofs.Common.{◌≡◌, ◌+◌, ◌-◌, suc, length, arith}
use Rattle.htn_walk.proofs.ChildPlaces.{place_removed, place_seen}
use Rattle.htn_walk.proofs.places.take_place.Goals as goal

pub returns-clause-place : goal.returns-clause-place
returns-clause-place c =
    let at = c.len.result - 1 - c.args.position in
    let long : suc at + c.args.position ≡ length c.args.places.now.items = omega (arith, c.requires, c.len.ensures) in
    place_seen c.args.places.now.items c.remove.result at c.args.position long c.remove.ensures.value

pub returns-clause-left : goal.returns-clause-left
returns-clause-left c =
    let at = c.len.result - 1 - c.args.position in
    let long : suc at + c.args.position ≡ length c.args.places.now.items = omega (arith, c.requires, c.len.ensures) in
    place_removed c.args.places.now.items c.remove.new.self.items at c.args.position long c.remove.ensures.items
