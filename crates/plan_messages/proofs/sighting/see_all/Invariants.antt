use Rattle.std.proofs.Common.{◌≡◌, length, take}
use Rattle.plan_messages.specs.Sightings.{seen_of}
use Rattle.plan_messages.proofs.sighting.see_all.Given as goal

abbrev pub invariant-loop-mention : goal.invariant-loop-mention
invariant-loop-mention l = record {
  long : length l.sightings.items ≡ length l.ids.keys;
  seen : l.sightings.items ≡ seen_of l.ids.keys (take l.mention-index l.mentions);
}
