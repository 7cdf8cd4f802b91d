use Rattle.std.proofs.Common.{◌≡◌, [], take}
use Rattle.plan_messages.specs.Sightings.{seen_of}
use Rattle.plan_messages.proofs.sighting.unseen.Given as goal

abbrev pub invariant-loop-id : goal.invariant-loop-id
invariant-loop-id l = l.sightings.items ≡ seen_of (take l.id-index l.ids) []
