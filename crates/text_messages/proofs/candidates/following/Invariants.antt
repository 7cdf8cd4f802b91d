use Rattle.std.proofs.Common.{take}
use Rattle.diagnostics.specs.Near.{names_of}
use Rattle.text_messages.specs.Following.{HasFollowing}
use Rattle.text_messages.proofs.candidates.following.Given as goal

-- those so far
abbrev pub invariant-loop-candidate : goal.invariant-loop-candidate
invariant-loop-candidate l = HasFollowing l.role l.before (names_of (take l.candidate-index l.candidates)) (names_of l.found.items)
