use Rattle.std.proofs.Common.{take}
use Rattle.hddl_warnings.specs.Tells.{IsUnlisted, Tells}
use Rattle.hddl_warnings.proofs.tell.tell_unlisted.Given as goal

abbrev pub invariant-loop-mention : goal.invariant-loop-mention
invariant-loop-mention l = Tells l.initial.out.items l.out.items (IsUnlisted l.kind (take l.mention-index l.declared) l.known)
