use Rattle.std.proofs.Common.{◌≡◌, take}
use Rattle.std.specs.List.{position}
use Rattle.hddl_meaning.specs.Mentions.{Text}
use Rattle.hddl_meaning.specs.Networks.{is_text}
use Rattle.hddl_scope.specs.Numbers.{number_at}
use Rattle.pair_messages.proofs.asked.label_numbers.Given as goal

abbrev pub invariant-loop-index : goal.invariant-loop-index
invariant-loop-index l = (t : Text) → number_at l.numbers t ≡ position (λ s. is_text t s.label) (take l.index l.subtasks)
