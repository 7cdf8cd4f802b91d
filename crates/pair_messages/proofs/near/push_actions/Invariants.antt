use Rattle.std.proofs.Common.{◌≡◌, ◌++◌, map, take}
use Rattle.diagnostics.specs.Near.{names_of}
use Rattle.pair_messages.proofs.near.push_actions.Given as goal

-- those so far
abbrev pub invariant-loop-action : goal.invariant-loop-action
invariant-loop-action l = names_of l.names.items ≡ names_of l.initial.names.items ++ map (λ x. x.name.text) (take l.action-index l.actions)
