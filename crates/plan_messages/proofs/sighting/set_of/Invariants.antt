use Rattle.std.proofs.Common.{◌≡◌, take}
use Rattle.plan_messages.proofs.sighting.set_of.Given as goal

abbrev pub invariant-loop-id : goal.invariant-loop-id
invariant-loop-id l = l.set.keys ≡ take l.id-index l.ids
