use Rattle.std.proofs.Common.{List, ◌++◌, take}
use Rattle.hddl_warnings.specs.Known.{Knows}
use Rattle.hddl_warnings.specs.Tells.{Tells}
use Rattle.hddl_meaning.specs.Mentions.{Text, texts}
use Rattle.hddl_warnings.proofs.Again.{ToldAgain}
use Rattle.hddl_warnings.proofs.objects.tell_again.Given as goal

abbrev pub invariant-loop-mention : goal.invariant-loop-mention
invariant-loop-mention l = record {
  known : (before : List Text) → Knows l.initial.known before → Knows l.known (before ++ texts (take l.mention-index l.declared));
  told : (before : List Text) → Knows l.initial.known before → Tells l.initial.out.items l.out.items (ToldAgain l.source before (take l.mention-index l.declared));
}
