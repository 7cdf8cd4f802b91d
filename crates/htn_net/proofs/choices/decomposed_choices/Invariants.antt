use Rattle.std.proofs.Common.{◌≡◌}
use Rattle.htn_net.specs.Choices.{decomposed_choices}
use Rattle.htn_net.proofs.choices.decomposed_choices.Given as goal

abbrev pub invariant-loop-number : goal.invariant-loop-number
invariant-loop-number l = l.choices.items ≡ decomposed_choices l.position l.yielded
