use Rattle.std.proofs.Common.{◌≡◌, drop}
use Rattle.pair_messages.specs.Notes.{first_place}
use Rattle.pair_messages.proofs.listed.place_in.Given as goal

-- those that are left have the same first one
abbrev pub invariant-loop-mention : goal.invariant-loop-mention
invariant-loop-mention l = first_place (drop l.mention-index l.mentions) l.text ≡ first_place l.mentions l.text
