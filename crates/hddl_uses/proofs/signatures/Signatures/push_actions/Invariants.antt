use Rattle.std.proofs.Common.{◌++◌, List, map, take}
use Rattle.hddl_meaning.specs.Items.{Signature, signature}
use Rattle.hddl_uses.specs.Tables.{IsTableOf}
use Rattle.hddl_uses.proofs.signatures.Signatures.push_actions.Given as goal

abbrev pub invariant-loop-action : goal.invariant-loop-action
invariant-loop-action l =
    (signatures : List Signature) → IsTableOf signatures l.initial.self
    → IsTableOf (signatures ++ map (λ x. signature x.name x.parameters) (take l.action-index l.actions)) l.self
